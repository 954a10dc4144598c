use Rattle.device_shared.proofs.CallersFacts.{control-after}
use Rattle.device_shared.proofs.shared_receive.SharedReceiveReceiveSide.mark.Goals as goal

pub invariant_of-self : goal.invariant_of-self
invariant_of-self g c = (control-after c.self.invariant.0 c.mark.new.place c.mark.ensures.same, c.self.invariant.1)
