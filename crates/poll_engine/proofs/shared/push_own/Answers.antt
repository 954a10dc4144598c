use Rattle.std.proofs.Common.{ap, ◌∙◌}
use Rattle.poll_engine.proofs.OrderSteps.{pushes, pops}
use Rattle.poll_engine.proofs.shared.push_own.Goals as goal

pub force_push_as-requires-clause-push : goal.force_push_as-requires-clause-push
force_push_as-requires-clause-push g c =
    let live = c.requires.pass.1 in
    (pushes _ _ _ _ live, λ first w popped. pushes _ _ _ _ (ap (λ v. v.live) popped ∙ live))

pub force_push_as-requires-clause-pop : goal.force_push_as-requires-clause-pop
force_push_as-requires-clause-pop g c = λ first items views _ holds at. pops _ _ c.requires.pass.2 first items views holds at
