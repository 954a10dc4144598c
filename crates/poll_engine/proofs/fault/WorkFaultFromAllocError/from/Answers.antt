use Rattle.{std.proofs.Common.refl, poll_engine.specs.WorkFaults.wanted_by}
use Rattle.poll_engine.proofs.fault.WorkFaultFromAllocError.from.Goals as goal

pub returns : goal.returns
returns c = (refl, wanted_by c.args.arg1)
