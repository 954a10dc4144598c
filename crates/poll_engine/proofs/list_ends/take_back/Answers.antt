use Rattle.{std.proofs.Common.ap, poll_engine.proofs.OrderSteps.merges}
use Rattle.poll_engine.proofs.list_ends.take_back.Goals as goal

pub absorb-requires-clause-rule : goal.absorb-requires-clause-rule
absorb-requires-clause-rule g c = merges _ _ _ _ (ap (λ v. v.polls) c.loop-end.invariant.knows) c.in-Some.end.live
