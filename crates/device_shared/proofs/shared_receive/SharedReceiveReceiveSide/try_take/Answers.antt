use Rattle.device_shared.proofs.CallersFacts.{control-after}
use Rattle.device_shared.proofs.shared_receive.SharedReceiveReceiveSide.try_take.Goals as goal

pub invariant_of-self : goal.invariant_of-self
invariant_of-self g c = (control-after c.self.invariant.0 c.try_take-taken.new.place c.try_take-taken.ensures.same, c.self.invariant.1)
