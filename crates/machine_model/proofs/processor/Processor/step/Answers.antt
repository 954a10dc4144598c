use Rattle.std.proofs.Common.{arith}
use Rattle.machine_model.proofs.{KeptFacts.kept-devices, PlacesFacts.scheduled-expired}
use Rattle.machine_model.proofs.processor.Processor.step.Goals as goal

pub invariant_of-self : goal.invariant_of-self
invariant_of-self c =
    let i = c.self.inside in
    rw c.expire.ensures
    (kept-devices i.settings i.work i.devices _ i.softirq c.self.invariant
    (omega (arith, scheduled-expired c.in-Expires.timer.device i.devices)))
