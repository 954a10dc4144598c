-- The errors of a replay, as the numbers that C gets.
use Rattle.std.specs.Prelude.{ℕ}
use Rattle.text_io.specs.declared.fault.ReplayFault.{ReplayFault}
use Rattle.text_io.specs.declared.fault.ReplayFault.TheVariants.{Trace, Pending, OutputFailed}
use Rattle.device_rows.specs.declared.fault.TraceFault.{TraceFault, TheVariants.{BadFields, BadNumber, BadEvent, OutOfRange}}
use Rattle.device_rows.specs.declared.fault.TraceFault.TheVariants.{UnknownDevice, OpenTwice, WrongState, TooManyRows, ReadFailed}
use Rattle.{device_rows.specs.declared.fault.TraceFault.TheVariants.OutOfMemory}
use Rattle.files_c.specs.Status.{FILES_BAD_TRACE, FILES_OUT_OF_MEMORY}

-- the status of an error: bad trace if the trace causes it, otherwise out of memory
abbrev pub trace_c_status : TraceFault → ℕ
trace_c_status ReadFailed = FILES_OUT_OF_MEMORY
trace_c_status OutOfMemory = FILES_OUT_OF_MEMORY
trace_c_status _ = FILES_BAD_TRACE

abbrev pub fault_status : ReplayFault → ℕ
fault_status (Trace fault) = trace_c_status fault
fault_status OutputFailed = FILES_OUT_OF_MEMORY
fault_status _ = FILES_BAD_TRACE

-- the row that an error names, or 0
abbrev pub trace_row : TraceFault → ℕ
trace_row (BadFields row) = row
trace_row (BadNumber row) = row
trace_row (BadEvent row) = row
trace_row (OutOfRange row) = row
trace_row (UnknownDevice row) = row
trace_row (OpenTwice row) = row
trace_row (WrongState row) = row
trace_row TooManyRows = 100001
trace_row _ = 0

abbrev pub fault_row : ReplayFault → ℕ
fault_row (Trace fault) = trace_row fault
fault_row (Pending row) = row
fault_row _ = 0
