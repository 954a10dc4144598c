use Rattle.std.proofs.Common.{◌≡◌, ℕ, true, false, refl, subst, sym, ◌∙◌}
use Rattle.c_handles.specs.{Handles.CallerStep, CallerCalls.CallerRequeues}
use Rattle.napi_c.proofs.RuleFacts.{look_stays_polling, polls_requeues}
use Rattle.napi_c.proofs.rules.end_full.Goals as goal

pub returns-then-not-stays_scheduled-clause-makes : goal.returns-then-not-stays_scheduled-clause-makes
returns-then-not-stays_scheduled-clause-makes c = record {
  seen = c.in-Some.seen;
  looked = c.look.new.self;
  looks = (c.in-Some.ensures.looks, c.in-Some.ensures.answers);
  completed = λ _. c.complete.ensures.makes;
  thread = λ stays _. let bad : false ≡ true = sym c.if-not-stays_scheduled.true ∙ c.stays_scheduled.ensures ∙ stays in absurd (cc bad);
  list = λ stays _. let bad : false ≡ true = sym c.if-not-stays_scheduled.true ∙ c.stays_scheduled.ensures ∙ stays in absurd (cc bad);
}

pub returns-then-seen-clause-makes : goal.returns-then-seen-clause-makes
returns-then-seen-clause-makes c = record {
  seen = c.in-Some.seen;
  looked = c.look.new.self;
  looks = (c.in-Some.ensures.looks, c.in-Some.ensures.answers);
  completed = λ no. let bad : true ≡ false = sym c.if-not-stays_scheduled.false ∙ c.stays_scheduled.ensures ∙ no in absurd (cc bad);
  thread = λ _ _. (refl, c.requires.gone, refl);
  list = λ _ no. let bad : true ≡ false = sym c.if-seen.true ∙ no in absurd (cc bad);
}

pub returns-clause-makes : goal.returns-clause-makes
returns-clause-makes c =
    let looked = c.look.new.self in
    let listed = c.requeue.new.self in
    let polls = look_stays_polling c.args.caller.now.state c.in-Some.seen looked.state c.in-Some.ensures.looks c.requires.polls in
    let requeues = polls_requeues looked.state c.requeue.result listed.state c.requeue.ensures.0 polls in
    record {
      seen = c.in-Some.seen;
      looked = looked;
      looks = (c.in-Some.ensures.looks, c.in-Some.ensures.answers);
      completed = λ no. let bad : true ≡ false = sym c.if-not-stays_scheduled.false ∙ c.stays_scheduled.ensures ∙ no in absurd (cc bad);
      thread = λ _ is. let bad : false ≡ true = sym c.if-seen.false ∙ is in absurd (cc bad);
      list = λ _ _. (
        requeues.0,
        refl,
        subst (λ (n : ℕ). CallerStep CallerRequeues looked n listed) requeues.0 c.requeue.ensures,
      );
    }

pub returns-clause-none : goal.returns-clause-none
returns-clause-none c = λ no.
    let looked = c.look.new.self in
    let polls = look_stays_polling c.args.caller.now.state c.in-Some.seen looked.state c.in-Some.ensures.looks c.requires.polls in
    absurd (no (polls_requeues looked.state c.requeue.result c.requeue.new.self.state c.requeue.ensures.0 polls).0)
