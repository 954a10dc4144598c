use Rattle.device_shared.proofs.CallersFacts.{busy-poller, poller-after}
use Rattle.device_shared.proofs.shared_receive.SharedReceiveReceiveSide.hold.Goals as goal

pub invariant_of-self : goal.invariant_of-self
invariant_of-self g c =
    (poller-after c.self.invariant.0 c.hold.new.place c.hold.ensures.same (busy-poller _ c.hold.ensures.state), c.self.invariant.1)
