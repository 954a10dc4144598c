use Rattle.std.proofs.Common.{refl, sym, ap, ◌∙◌, get_or}
use Rattle.napi_model.{specs.{Step.after, History.state_after}, proofs.Histories.{no_event, state_after-more}}
use Rattle.napi_model.proofs.history.state_after.Goals as goal

pub loop-event-init : goal.loop-event-init
unfolding state_after
loop-event-init c = refl

pub loop-event-preserved : goal.loop-event-preserved
loop-event-preserved c =
    c.after-state.ensures.state
    ∙ ap (λ s. after s (get_or c.args.history.now c.loop-event.event-index no_event)) c.loop-event.invariant
    ∙ sym (state_after-more c.args.start c.args.history.now c.loop-event.event-index c.loop-event-test.true)
