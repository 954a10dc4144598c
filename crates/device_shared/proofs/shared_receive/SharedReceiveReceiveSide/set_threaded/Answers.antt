use Rattle.device_shared.proofs.CallersFacts.{interrupt-after}
use Rattle.device_shared.proofs.shared_receive.SharedReceiveReceiveSide.set_threaded.Goals as goal

pub invariant_of-self : goal.invariant_of-self
invariant_of-self g c = (
  interrupt-after c.self.invariant.0 c.set_threaded.new.place c.set_threaded.ensures.same c.set_threaded.ensures.state,
  c.self.invariant.1,
)
