use Rattle.std.proofs.Common.{Bool, false, sym, subst, ◌∙◌}
use Rattle.napi_model.specs.declared.event.Operation.TheVariants.{Take}
use Rattle.napi_word.{specs.{Events.Steps, Passes.{view_of, HasPoll}}, proofs.Knowing.take_polls}
use Rattle.napi_model.specs.declared.state.Kind.TheVariants as kind
use Rattle.benches.proofs.turns.turn.Goals as goal

pub complete-requires-clause-polls : goal.complete-requires-clause-polls
complete-requires-clause-polls c =
    let v = view_of c.schedule.new.pass in
    let w = view_of c.take.new.pass in
    let event = subst (λ (b : Bool). Steps v (Take kind.List b) w) c.if-take.true c.take.ensures.step.event in
    subst (HasPoll false) (sym (c.slot_in.ensures.keeps.view ∙ c.slot_out-ctx.ensures.keeps.view)) (take_polls v w kind.List event)
