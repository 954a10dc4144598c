use Rattle.{std.proofs.Common.ap, poll_engine.proofs.OrderSteps.{begins, forks}}
use Rattle.poll_engine.proofs.list_ends.with_ends.Goals as goal

pub ruled-requires-clause-rule : goal.ruled-requires-clause-rule
ruled-requires-clause-rule g c = begins

pub another-end-requires-clause-rule : goal.another-end-requires-clause-rule
another-end-requires-clause-rule g c = forks _ _ (ap (λ v. v.polls) c.loop.invariant.knows)
