use Rattle.{std.proofs.Common.{refl, arith}, machine_model.proofs.PendingFacts.pending-none}
use Rattle.machine_model.proofs.devices.QueueTable.new.Goals as goal

pub invariant_of-result : goal.invariant_of-result
invariant_of-result c = rw c.new.ensures.items (omega arith, pending-none _ refl refl refl)
