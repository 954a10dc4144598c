-- The message, the number and the exit status of each error. See docs/FORMATS.md, "Faults".
use Rattle.std.specs.Prelude.{ℕ, List, ◌++◌, codes, decimal}
use Rattle.device_rows.specs.Fault.{trace_fault_number as trace_number}
use Rattle.device_rows.specs.declared.fault.TraceFault.{TraceFault, TheVariants.{BadHeader, BadFields, BadNumber, BadEvent, OutOfRange}}
use Rattle.device_rows.specs.declared.fault.TraceFault.TheVariants.{UnknownDevice, OpenTwice, WrongState, TooManyRows, ReadFailed}
use Rattle.device_rows.specs.declared.fault.TraceFault.TheVariants.{OutOfMemory}
use Rattle.text_io.specs.declared.fault.ReplayFault.{ReplayFault}
use Rattle.text_io.specs.declared.fault.ReplayFault.TheVariants.{Trace, Pending, RingTooSmall, GateShut, OutputFailed, SpawnFailed}

abbrev pub replay_fault_number : ReplayFault → ℕ
replay_fault_number (Trace fault) = trace_number fault
replay_fault_number (Pending row) = 12
replay_fault_number (RingTooSmall device needs) = 13
replay_fault_number GateShut = 14
replay_fault_number OutputFailed = 15
replay_fault_number SpawnFailed = 16

abbrev pub trace_line : TraceFault → List ℕ
trace_line BadHeader = codes "trace fault 1 BadHeader row 0"
trace_line (BadFields row) = codes "trace fault 2 BadFields row " ++ decimal row
trace_line (BadNumber row) = codes "trace fault 3 BadNumber row " ++ decimal row
trace_line (BadEvent row) = codes "trace fault 4 BadEvent row " ++ decimal row
trace_line (OutOfRange row) = codes "trace fault 5 OutOfRange row " ++ decimal row
trace_line (UnknownDevice row) = codes "trace fault 6 UnknownDevice row " ++ decimal row
trace_line (OpenTwice row) = codes "trace fault 7 OpenTwice row " ++ decimal row
trace_line (WrongState row) = codes "trace fault 8 WrongState row " ++ decimal row
trace_line TooManyRows = codes "trace fault 9 TooManyRows row 100001"
trace_line ReadFailed = codes "trace fault 10 ReadFailed"
trace_line OutOfMemory = codes "memory fault 11 OutOfMemory"

abbrev pub replay_fault_line : ReplayFault → List ℕ
replay_fault_line (Trace fault) = trace_line fault
replay_fault_line (Pending row) = codes "trace fault 12 Pending row " ++ decimal row
replay_fault_line (RingTooSmall device needs) = codes "ring fault 13 RingTooSmall device " ++ decimal device ++ codes " needs "
    ++ decimal needs
replay_fault_line GateShut = codes "worker fault 14 GateShut"
replay_fault_line OutputFailed = codes "output fault 15 OutputFailed"
replay_fault_line SpawnFailed = codes "worker fault 16 SpawnFailed"

abbrev pub trace_status : TraceFault → ℕ
trace_status OutOfMemory = 4
trace_status _ = 2

abbrev pub replay_fault_status : ReplayFault → ℕ
replay_fault_status (Trace fault) = trace_status fault
replay_fault_status (Pending row) = 2
replay_fault_status (RingTooSmall device needs) = 3
replay_fault_status GateShut = 4
replay_fault_status OutputFailed = 4
replay_fault_status SpawnFailed = 4
