use Rattle.std.proofs.Common.{◌≡◌, ◌⊎◌, ◌<◌, inl, inr, ℕ, List, Ok, length, sym, ap, subst, arith, ◌∙◌, rules}
use Rattle.text_io.specs.Outside.{IsOutside}
use Rattle.files_c.specs.Replay.{IsErrorOf, computed_by}
use Rattle.files_c.proofs.Outside.{else-memory, theirs}
use Rattle.files_c.proofs.replay_calls.answer.Goals as goal

pub returns-in-Ok-text_of : goal.returns-in-Ok-text_of
returns-in-Ok-text_of c =
    let computes = computed_by c.args.restarts in
    record {
      written = λ ok.
          let whole = c.put_report.ensures.ok ok ∙ c.as_slice.ensures.value in (
            c.in-Ok.asked,
            c.in-Ok.ensures.asked.0,
            subst (λ (text : List ℕ). computes c.in-Ok.asked c.args.trace.now ≡ Ok text) (sym whole) c.in-Ok-text_of.ensures.text,
          );
      rest = search rules;
      no_room = λ no.
          let short = c.put_report.ensures.no_room (λ ok. let both : 115 ≡ 0 = sym no ∙ ok in omega (arith, both)) in (
            c.in-Ok-text_of.text.items,
            (c.in-Ok.asked, c.in-Ok.ensures.asked.0, c.in-Ok-text_of.ensures.text),
            c.put_report.ensures.length ∙ ap (λ (text : List ℕ). length text) c.as_slice.ensures.value,
            subst (λ (text : List ℕ). length c.args.to.now < length text) c.as_slice.ensures.value short.1,
          );
      fault = search rules;
      memory = λ ok room. absurd (room (c.put_report.ensures.no_room ok).0);
      weight = search rules;
      budget = search rules;
      kept = search rules;
      faultless = search rules;
      no_text = search rules;
    }

pub returns-in-Err-text_of : goal.returns-in-Err-text_of
returns-in-Err-text_of c =
    let computes = computed_by c.args.restarts in
    let fault = c.in-Err-text_of.fault in
    record {
      written = search rules;
      rest = search rules;
      no_room = search rules;
      fault = λ bad. (
        fault,
        (
          c.in-Ok.asked,
          c.in-Ok.ensures.asked.0,
          theirs fault _ c.in-Err-text_of.ensures.fault (sym c.report_fault.ensures.status ∙ bad),
        ),
        c.report_fault.ensures.reported bad,
      );
      memory = λ ok room bad weight budget.
          let status = else-memory fault (λ is. bad (c.report_fault.ensures.status ∙ is)) in
          let why : IsOutside fault ⊎ IsErrorOf computes c.args.settings.now c.args.trace.now fault = elim c.in-Err-text_of.ensures.fault [
            | inl outside ↦ inl outside
            | inr is ↦ inr (c.in-Ok.asked, c.in-Ok.ensures.asked.0, is)
          ] in
          (c.report_fault.ensures.status ∙ status, (fault, status, why));
      weight = search rules;
      budget = search rules;
      kept = search rules;
      faultless = search rules;
      no_text = search rules;
    }
