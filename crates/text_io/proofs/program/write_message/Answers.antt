use Rattle.{std.proofs.Common.inr, device_rows.specs.Failures.trace_out_of_memory}
use Rattle.text_io.proofs.program.write_message.Goals as goal

pub returns-in-Err-clause-stopped : goal.returns-in-Err-clause-stopped
returns-in-Err-clause-stopped g c = λ _. inr (trace_out_of_memory c.in-Err.field-0)
