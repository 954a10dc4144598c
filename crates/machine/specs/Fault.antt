-- The message, the number and the exit status of each error. See docs/FORMATS.md, "Arrivals".
use Rattle.std.specs.Prelude.{◌≡◌, ◌⊎◌, ℕ, List, ◌++◌, codes, decimal}
use Rattle.device_rows.specs.Failures.{HasFailed, IsTraceOutOfMemory}
use Rattle.machine.specs.Endless.{IsEndless}
use Rattle.machine.specs.declared.fault.MachineFault.{MachineFault}
use Rattle.machine.specs.declared.fault.MachineFault.TheVariants.{BadHeader, BadFields, BadNumber, OutOfRange, Falls, ReadFailed}
use Rattle.machine.specs.declared.fault.MachineFault.TheVariants.{OutOfMemory, OutputFailed}
use Rattle.text_io.specs.Stops.{HasStopped}

abbrev pub machine_fault_number : MachineFault → ℕ
machine_fault_number BadHeader = 1
machine_fault_number (BadFields row) = 2
machine_fault_number (BadNumber row) = 3
machine_fault_number (OutOfRange row) = 5
machine_fault_number (Falls row) = 8
machine_fault_number ReadFailed = 10
machine_fault_number OutOfMemory = 11
machine_fault_number OutputFailed = 15

abbrev pub machine_fault_line : MachineFault → List ℕ
machine_fault_line BadHeader = codes "arrivals fault 1 BadHeader row 0"
machine_fault_line (BadFields row) = codes "arrivals fault 2 BadFields row " ++ decimal row
machine_fault_line (BadNumber row) = codes "arrivals fault 3 BadNumber row " ++ decimal row
machine_fault_line (OutOfRange row) = codes "arrivals fault 5 OutOfRange row " ++ decimal row
machine_fault_line (Falls row) = codes "arrivals fault 8 Falls row " ++ decimal row
machine_fault_line ReadFailed = codes "arrivals fault 10 ReadFailed"
machine_fault_line OutOfMemory = codes "memory fault 11 OutOfMemory"
machine_fault_line OutputFailed = codes "output fault 15 OutputFailed"

abbrev pub machine_fault_status : MachineFault → ℕ
machine_fault_status OutOfMemory = 4
machine_fault_status OutputFailed = 4
machine_fault_status _ = 2

-- the error is an allocation that failed
abbrev pub IsMachineOutOfMemory : MachineFault → Type 0
IsMachineOutOfMemory fault = (fault ≡ OutOfMemory) × IsTraceOutOfMemory

-- the error isn't in the arrivals: the reader or an allocation failed, or there were more rows than can be counted
abbrev pub IsArrivalReadFailure : MachineFault → Type 0
IsArrivalReadFailure fault = ((fault ≡ ReadFailed) × (HasFailed ⊎ IsEndless)) ⊎ IsMachineOutOfMemory fault

-- the error isn't in the arrivals: the reader, an allocation or the writer failed, or there were more rows than can be counted
abbrev pub IsMachineOutside : MachineFault → Type 0
IsMachineOutside fault = IsArrivalReadFailure fault ⊎ ((fault ≡ OutputFailed) × HasStopped)
