-- The numbers of the errors. See docs/FORMATS.md, "Faults".
use Rattle.{std.specs.Prelude.ℕ, device_rows.specs.declared.fault.TraceFault.{TraceFault, TheVariants.{BadHeader, BadFields, BadNumber}}}
use Rattle.device_rows.specs.declared.fault.TraceFault.TheVariants.{BadEvent, OutOfRange, UnknownDevice, OpenTwice, WrongState, TooManyRows}
use Rattle.device_rows.specs.declared.fault.TraceFault.TheVariants.{ReadFailed, OutOfMemory}

-- the number of an error
abbrev pub trace_fault_number : TraceFault → ℕ
trace_fault_number BadHeader = 1
trace_fault_number (BadFields row) = 2
trace_fault_number (BadNumber row) = 3
trace_fault_number (BadEvent row) = 4
trace_fault_number (OutOfRange row) = 5
trace_fault_number (UnknownDevice row) = 6
trace_fault_number (OpenTwice row) = 7
trace_fault_number (WrongState row) = 8
trace_fault_number TooManyRows = 9
trace_fault_number ReadFailed = 10
trace_fault_number OutOfMemory = 11
