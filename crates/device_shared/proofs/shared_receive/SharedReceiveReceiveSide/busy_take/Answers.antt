use Rattle.device_shared.proofs.CallersFacts.{busy-taken-poller, poller-after}
use Rattle.device_shared.proofs.shared_receive.SharedReceiveReceiveSide.busy_take.Goals as goal

pub invariant_of-self : goal.invariant_of-self
invariant_of-self g c = (
  poller-after c.self.invariant.0 c.busy_take-taken.new.place c.busy_take-taken.ensures.same
      (busy-taken-poller c.busy_take-taken.result _ c.busy_take-taken.ensures.state),
  c.self.invariant.1,
)
