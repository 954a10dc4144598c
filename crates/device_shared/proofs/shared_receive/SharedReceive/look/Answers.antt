use Rattle.device_shared.proofs.CallersFacts.{interrupt-after}
use Rattle.device_shared.proofs.shared_receive.SharedReceive.look.Goals as goal

pub invariant_of-self : goal.invariant_of-self
invariant_of-self g c = (
  interrupt-after c.self.invariant.0 c.look-self-inside.new.place c.look-self-inside.ensures.same c.look-self-inside.ensures.state,
  c.self.invariant.1,
)
