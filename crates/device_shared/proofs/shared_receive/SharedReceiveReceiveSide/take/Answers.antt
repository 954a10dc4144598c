use Rattle.device_shared.proofs.CallersFacts.{poller-after, taken-poller, taken-thread, thread-after}
use Rattle.device_shared.proofs.shared_receive.SharedReceiveReceiveSide.take.Goals as goal

pub invariant_of-self : goal.invariant_of-self
invariant_of-self g c = (
  poller-after c.self.invariant.0 c.take-taken.new.place c.take-taken.ensures.same
      (taken-poller c.take-taken.result _ c.take-taken.ensures.state),
  c.self.invariant.1,
)

pub invariant_of-self-in-Thread : goal.invariant_of-self-in-Thread
invariant_of-self-in-Thread g c = (
  thread-after c.self.invariant.0 c.take-taken-in-Thread.new.place c.take-taken-in-Thread.ensures.same
      (taken-thread c.take-taken-in-Thread.result _ c.take-taken-in-Thread.ensures.state),
  c.self.invariant.1,
)
