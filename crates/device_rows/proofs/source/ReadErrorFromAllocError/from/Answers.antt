use Rattle.device_rows.specs.Failures.{trace_out_of_memory}
use Rattle.device_rows.proofs.source.ReadErrorFromAllocError.from.Goals as goal

pub returns : goal.returns
returns c = trace_out_of_memory c.args.arg1
