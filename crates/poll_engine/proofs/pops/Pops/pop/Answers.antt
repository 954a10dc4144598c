use Rattle.poll_engine.proofs.OrderSteps.{pops, learns}
use Rattle.poll_engine.proofs.pops.Pops.pop.Goals as goal

pub pop_as-popped-requires-clause-rule : goal.pop_as-popped-requires-clause-rule
pop_as-popped-requires-clause-rule g c = (pops _ _ c.requires.pass.1, learns _ _ c.requires.pass.1)
