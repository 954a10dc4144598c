use Rattle.std.proofs.Common.{ap, ◌∙◌}
use Rattle.poll_engine.proofs.OrderSteps.{pushes}
use Rattle.poll_engine.proofs.list_in.push_waiting.Goals as goal

pub push_as-requires-clause-rule : goal.push_as-requires-clause-rule
push_as-requires-clause-rule g c = (pushes _ _ _ _ (ap (λ v. v.live) c.loop.invariant.1 ∙ c.requires.pass.1), λ _ _ _ _. tt)
