-- The laws of machines hold for the machine of a report.
use Rattle.std.specs.Prelude.{◌≡◌, ℕ, List, [], ◌∷◌, Some, slice_get}
use Rattle.machine.specs.Lives.{Ended, own_packets}
use Rattle.machine_model.specs.{Processor.ProcessorView, declared.settings.MachineSettings.MachineSettings}
use Rattle.machine.specs.Answer.{IsReportOf}
use Rattle.machine.specs.declared.arrival.Arrival.{Arrival}

-- the packets of these arrivals after earlier ones, the last one first: the time and the queue of each
abbrev pub arrived_packets : List (ℕ × ℕ) → List Arrival → List (ℕ × ℕ)
arrived_packets earlier [] = earlier
arrived_packets earlier (arrival ∷ arrivals) = arrived_packets ((arrival.moment, arrival.device) ∷ earlier) arrivals

-- Law: each processor of a report has a life with the packets of its own queues, out of those of the input, until nothing was
-- left.
abbrev pub ReportsLives : Type 0
ReportsLives = (s : MachineSettings) (bytes text : List ℕ) (r : IsReportOf s bytes text) (number : ℕ) (p : ProcessorView)
    → slice_get r.finished number ≡ Some p
    → Ended s (own_packets s.processors number (arrived_packets [] r.arrivals)) p

-- Law: the bytes of arrivals and the settings determine the report.
abbrev pub HasOneReport : Type 0
HasOneReport = (s : MachineSettings) (bytes text other : List ℕ) → IsReportOf s bytes text → IsReportOf s bytes other → text ≡ other
