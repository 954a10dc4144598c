-- The result of the machine for the bytes of arrivals: its report, or their first error.
use Rattle.std.specs.Prelude.{◌≡◌, ℕ, List, [], ◌∷◌, Ok, Err}
use Rattle.{device_rows.specs.Trace.records_of, machine_model.specs.Machine.PacketArrives}
use Rattle.{machine_model.specs.Machine.{Finishes, Machine, opened_machine}}
use Rattle.{machine_model.specs.declared.settings.MachineSettings.MachineSettings}
use Rattle.machine.specs.Arrivals.{arrivals_of}
use Rattle.machine.specs.Report.{machine_text}
use Rattle.machine.specs.declared.arrival.Arrival.{Arrival}
use Rattle.machine.specs.declared.fault.MachineFault.{MachineFault}

-- the machine after these arrivals, one by one
abbrev pub TakesArrivals : List Arrival → Machine → Machine → Type 0
TakesArrivals [] before after = after ≡ before
TakesArrivals (arrival ∷ arrivals) before after =
    (next : Machine) × PacketArrives arrival.moment arrival.device before next × TakesArrivals arrivals next after

-- The text is the report: the bytes are arrivals, the machine received them all and advanced until nothing was left, and the
-- text shows its final state.
pub record IsReportOf (s : MachineSettings) (bytes text : List ℕ) : Type 0 where
  pub arrivals : List Arrival
  pub read : arrivals_of s (records_of bytes) ≡ Ok arrivals
  pub behind : Machine
  pub taken : TakesArrivals arrivals (opened_machine s) behind
  pub finished : Machine
  pub finishes : Finishes behind finished
  pub told : text ≡ machine_text s finished

-- the error is the first one in the bytes
abbrev pub IsArrivalsFault : MachineSettings → List ℕ → MachineFault → Type 0
IsArrivalsFault s bytes fault = arrivals_of s (records_of bytes) ≡ Err fault
