use Rattle.device_shared.proofs.CallersFacts.{poller-after, polls-poller}
use Rattle.device_shared.proofs.shared_receive.SharedReceiveReceiveSide.stop.Goals as goal

pub invariant_of-self : goal.invariant_of-self
invariant_of-self g c =
    (poller-after c.self.invariant.0 c.stop.new.place c.stop.ensures.same (polls-poller _ c.stop.ensures.state), c.self.invariant.1)
