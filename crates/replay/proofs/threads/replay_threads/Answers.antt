use Rattle.std.proofs.{Common.{◌∙◌, Ok, ap, inl, inr, refl, rules, sym}, lemmas.Result.err_from_is_err_and}
use Rattle.replay.{specs.ThreadsReport.opened_devices, proofs.StationFacts.all-polled}
use Rattle.replay.proofs.threads.replay_threads.Goals as goal

pub returns-clause-polled : goal.returns-clause-polled
returns-clause-polled g c bytes known =
    rw (c.in_ok-polled.ensures, c.as_slice-2.ensures.value) (
      c.rows.result.now,
      c.in_ok-trace.ensures.rows bytes known ∙ ap Ok (sym c.rows.ensures.rows),
      all-polled c.rows.result.now (opened_devices c.rows.result.now) _ c.in_ok-ends.ensures.ends,
    )

pub returns-clause-run : goal.returns-clause-run
returns-clause-run g c bytes known =
    rw (c.in_ok-polled.ensures, c.as_slice-2.ensures.value) (
      c.rows.result.now,
      c.in_ok-trace.ensures.rows bytes known ∙ ap Ok (sym c.rows.ensures.rows),
      (_, c.in_ok-ends.ensures.ends, c.in_ok-ends.ensures.polled, refl),
    )

pub returns-in_err-ends-clause-fault : goal.returns-in_err-ends-clause-fault
returns-in_err-ends-clause-fault g c =
    let r = c.from_residual-in_err-ends in
    let p = err_from_is_err_and r.result r.ensures.1 in
    rw (p.1, p.2) (λ bytes known. elim c.in_err-ends.ensures.fault [
      | inl outside ↦ inl outside
      | inr small ↦ inr (rw (c.in_ok-trace.ensures.rows bytes known, rw c.rows.ensures.rows at small) refl)
    ])

pub returns-in_err-ends-clause-output : goal.returns-in_err-ends-clause-output
returns-in_err-ends-clause-output g c =
    let r = c.from_residual-in_err-ends in
    let p = err_from_is_err_and r.result r.ensures.1 in
    rw (p.1, p.2) (λ failed. absurd (c.in_err-ends.ensures.unwritten failed), λ _. search rules)
