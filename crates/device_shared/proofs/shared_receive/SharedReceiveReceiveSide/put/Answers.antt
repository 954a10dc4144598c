use Rattle.device_shared.proofs.CallersFacts.{all-fed}
use Rattle.device_shared.proofs.shared_receive.SharedReceiveReceiveSide.put.Goals as goal

pub invariant_of-self : goal.invariant_of-self
invariant_of-self g c = (all-fed c.put.ensures.ring c.self.invariant.0, c.self.invariant.1)

pub invariant_of-self-2 : goal.invariant_of-self-2
invariant_of-self-2 g c = (all-fed c.put.ensures.ring c.self.invariant.0, c.self.invariant.1)
