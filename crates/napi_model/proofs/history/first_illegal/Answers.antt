use Rattle.std.proofs.Common.{◌+◌, refl, sym, ap, ◌∙◌, take, get_or, subst, true≢false}
use Rattle.napi_model.specs.{Step.after, History.{state_after, LegalHistory, IsLegalFor}}
use Rattle.napi_model.proofs.Histories.{no_event, state_after-more, legal_more, legal_last, legal_part}
use Rattle.napi_model.proofs.history.first_illegal.Goals as goal

pub loop-i-init : goal.loop-i-init
unfolding state_after LegalHistory
loop-i-init c = record { reached = refl; legal = tt }

legal_now : (c : goal.Then-not-is_legal_for) → ¬ LegalHistory c.args.controller c.args.start (take (c.loop-i.i + 1) c.args.history.now)
legal_now c l =
    true≢false
    (sym (c.is_legal_for.ensures.1
    (subst (λ s. IsLegalFor c.args.controller s (get_or c.args.history.now c.loop-i.i no_event)) (sym c.loop-i.invariant.reached)
    (legal_last c.args.controller c.args.start c.args.history.now c.loop-i.i c.loop-i-test.true l))) ∙ c.if-not-is_legal_for.true)

pub returns-then-not-is_legal_for-clause-legal : goal.returns-then-not-is_legal_for-clause-legal
returns-then-not-is_legal_for-clause-legal c = (
  (λ e. absurd (true≢false e)),
  (λ l. absurd (legal_now c (legal_part c.args.controller c.args.start c.args.history.now (c.loop-i.i + 1) l))),
)

pub returns-then-not-is_legal_for-clause-first : goal.returns-then-not-is_legal_for-clause-first
returns-then-not-is_legal_for-clause-first c = (c.loop-i-test.true, legal_now c)

pub loop-i-preserved : goal.loop-i-preserved
loop-i-preserved c = record {
  reached =
      c.after-reached.ensures.state
      ∙ ap (λ s. after s (get_or c.args.history.now c.loop-i.i no_event)) c.loop-i.invariant.reached
      ∙ sym (state_after-more c.args.start c.args.history.now c.loop-i.i c.loop-i-test.true);
  legal = legal_more c.args.controller c.args.start c.args.history.now c.loop-i.i c.loop-i-test.true c.loop-i.invariant.legal
      (subst (λ s. IsLegalFor c.args.controller s (get_or c.args.history.now c.loop-i.i no_event)) c.loop-i.invariant.reached
      (c.is_legal_for.ensures.0 c.if-not-is_legal_for.false));
}
