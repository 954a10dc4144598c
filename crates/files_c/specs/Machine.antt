-- The arguments and results of a run of the machine for C.
use Rattle.std.specs.Prelude.{◌≡◌, ◌⊎◌, ℕ, List}
use Rattle.machine_model.specs.declared.settings.MachineSettings.{MachineSettings}
use Rattle.machine.specs.Answer.{IsReportOf, IsArrivalsFault}
use Rattle.machine.specs.Fault.{IsMachineOutside, machine_fault_line, machine_fault_number}
use Rattle.machine.specs.declared.fault.MachineFault.{MachineFault}
use Rattle.files_c.specs.MachineFaults.{machine_c_status, machine_fault_row, with_zeros}
use Rattle.files_c.specs.Settings.{AsksMachine}
use Rattle.files_c.specs.Status.{FILES_OUT_OF_MEMORY}
use Rattle.files_c.specs.declared.machine_calls.FqMachineRan.{FqMachineRan}
use Rattle.files_c.specs.declared.settings.FqMachineSettings.{FqMachineSettings}

-- both structs have this library's sizes
abbrev pub HasSizes : FqMachineSettings → FqMachineRan → Type 0
HasSizes asked ran = (asked.size ≡ 136) × (ran.size ≡ 96)

-- the text is the report of these arrivals with the requested settings
abbrev pub IsMachineReport : FqMachineSettings → List ℕ → List ℕ → Type 0
IsMachineReport asked bytes text = (s : MachineSettings) × AsksMachine asked s × IsReportOf s bytes text

-- the error is that of these bytes with these settings
abbrev pub IsMachineFault : FqMachineSettings → List ℕ → MachineFault → Type 0
IsMachineFault asked bytes fault = (s : MachineSettings) × AsksMachine asked s × IsArrivalsFault s bytes fault

-- an error with the status OUT_OF_MEMORY occurred: it came from outside the arrivals, or is the result for these arrivals
abbrev pub MachineLacksMemory : FqMachineSettings → List ℕ → Type 0
MachineLacksMemory asked bytes = (fault : MachineFault) × (machine_c_status fault ≡ FILES_OUT_OF_MEMORY)
    × (IsMachineOutside fault ⊎ IsMachineFault asked bytes fault)

-- an error is reported by its number, its row and its message; there is no report then
pub record Tells (fault : MachineFault) (ran : FqMachineRan) : Type 0 where
  pub number : ran.fault ≡ machine_fault_number fault
  pub row : ran.row ≡ machine_fault_row fault
  pub length : ran.length ≡ 0
  pub message : ran.message ≡ with_zeros (machine_fault_line fault)
