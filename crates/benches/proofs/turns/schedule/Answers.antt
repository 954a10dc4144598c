use Rattle.{std.proofs.Common.{subst, inl}, napi_model.specs.declared.event.{Prep.Prep, Operation.TheVariants.Schedule}}
use Rattle.napi_word.{specs.{Events.Steps, Passes.view_of}, proofs.Knowing.schedule_grants}
use Rattle.benches.proofs.turns.schedule.Goals as goal

pub hand-requires-clause-owner : goal.hand-requires-clause-owner
hand-requires-clause-owner c =
    let v = view_of c.schedule_load.new.pass in
    let w = view_of c.schedule_swap.new.pass in
    let o = c.in-Ok-Granted in
    inl (schedule_grants v w (subst (λ (r : Prep). Steps v (Schedule r) w) o.field-0-is o.ensures.step.event))
