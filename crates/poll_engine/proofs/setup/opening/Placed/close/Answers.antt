use Rattle.std.proofs.{Common.{arith}, lemmas.Grind.common_steps}
use Rattle.poll_engine.proofs.setup.opening.Placed.close.Goals as goal

pub invariant_of-closed : goal.invariant_of-closed
invariant_of-closed c = record { closed = ∣ (c.in-Ok.ctx, grind (arith, common_steps)) ∣₁ }
