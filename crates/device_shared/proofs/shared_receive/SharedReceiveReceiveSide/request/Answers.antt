use Rattle.device_shared.proofs.CallersFacts.{interrupt-after}
use Rattle.device_shared.proofs.shared_receive.SharedReceiveReceiveSide.request.Goals as goal

pub invariant_of-self : goal.invariant_of-self
invariant_of-self g c = (
  interrupt-after c.self.invariant.0 c.request-requested.new.place c.request-requested.ensures.same c.request-requested.ensures.state,
  c.self.invariant.1,
)
