use Rattle.device_shared.proofs.CallersFacts.{poller-after, rests-poller, rests-thread, thread-after}
use Rattle.device_shared.proofs.shared_receive.SharedReceiveReceiveSide.complete.Goals as goal

pub invariant_of-self : goal.invariant_of-self
invariant_of-self g c = (
  poller-after c.self.invariant.0 c.complete_by-again.new.place c.complete_by-again.ensures.same
      (rests-poller _ c.complete_by-again.ensures.state),
  c.self.invariant.1,
)

pub invariant_of-self-else-matches : goal.invariant_of-self-else-matches
invariant_of-self-else-matches g c = (
  thread-after c.self.invariant.0 c.complete_by-again-else-matches.new.place c.complete_by-again-else-matches.ensures.same
      (rests-thread _ c.complete_by-again-else-matches.ensures.state),
  c.self.invariant.1,
)
