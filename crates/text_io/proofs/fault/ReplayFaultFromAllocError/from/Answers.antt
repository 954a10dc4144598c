use Rattle.{std.proofs.Common.refl, device_rows.specs.Failures.trace_out_of_memory}
use Rattle.text_io.proofs.fault.ReplayFaultFromAllocError.from.Goals as goal

pub returns : goal.returns
returns c = (refl, trace_out_of_memory c.args.arg1)
