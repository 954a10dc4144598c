-- The machine: its processors, the effect of arrivals on them, and the contents of the report.
use Rattle.std.specs.Prelude.{◌≡◌, ℕ, ◌-◌, ◌/◌, ◌%◌, if◌then◌else◌}
use Rattle.device_places.specs.Places.{at}
use Rattle.machine_model.specs.declared.settings.MachineSettings.{MachineSettings}
use Rattle.std.specs.Prelude.{◌^◌, List, length, replicate, slice_get, slice_set, Option, Some, None}
use Rattle.std.specs.Option.{option_and_then, option_map}
use Rattle.machine_model.specs.declared.{application.ApplicationReport.ApplicationReport, device.QueueReport.QueueReport}
use Rattle.machine_model.specs.{declared.processor.ProcessorReport.ProcessorReport, Application.went_on, Device.QueueView}
use Rattle.machine_model.specs.{Processor.{ProcessorView, Advances, arrives, opened_processor}, Waits.summary_of}

-- the processors, in the order of their numbers
abbrev pub Machine : Type 0
Machine = List ProcessorView

abbrev pub opened_machine : MachineSettings → Machine
opened_machine s = replicate s.processors (opened_processor s)

-- the processor of a queue, and the queue's number there
abbrev pub processor_of : ℕ → Machine → ℕ
processor_of device m = (device - 1) % length m

abbrev pub local_number : ℕ → Machine → ℕ
local_number device m = (device - 1) / length m

-- a packet arrives for a queue of this processor, which first advances to the time of the arrival
abbrev pub ArrivesAt : ℕ → ℕ → ProcessorView → ProcessorView → Type 0
ArrivesAt moment number before after = (ready : ProcessorView) × Advances moment before ready × (after ≡ arrives moment number ready)

-- a packet arrives for a queue, and only that queue's processor changes
pub record PacketArrives (moment device : ℕ) (before after : Machine) : Type 0 where
  pub old : ProcessorView
  pub new : ProcessorView
  pub own : slice_get before (processor_of device before) ≡ Some old
  pub arrives : ArrivesAt moment (local_number device before) old new
  pub others : after ≡ slice_set before (processor_of device before) new

-- after the last arrival, a processor advances until nothing is left, and then its application works until it sleeps
abbrev pub FinishesAt : ProcessorView → ProcessorView → Type 0
FinishesAt before after = (ready : ProcessorView) × Advances (2 ^ 64 - 1) before ready
    × (after ≡ record ready { application = went_on (2 ^ 64 - 1) ready.settings.use_time ready.application })

pub record Finishes (before after : Machine) : Type 0 where
  pub count : length after ≡ length before
  pub each : (number : ℕ) (p : ProcessorView) → slice_get before number ≡ Some p
      → (q : ProcessorView) × (slice_get after number ≡ Some q) × FinishesAt p q

-- ---- the report

abbrev pub queue_report : QueueView → QueueReport
queue_report d = record { counts = d.counts; waits = summary_of d.waits }

-- the report of a queue for which a packet arrived
abbrev pub device_report : ℕ → Machine → Option QueueReport
device_report device m =
    option_and_then (λ p. option_map queue_report (at (local_number device m) p.devices)) (slice_get m (processor_of device m))

abbrev pub processor_report : ProcessorView → ProcessorReport
processor_report p =
    let a = p.application in
    let apart : Option ApplicationReport = if p.settings.apart then Some (record { end = a.end; wakes = a.wakes }) else None in
    record { counts = record p.counts { refused = a.refused }; end = p.clock; waits = summary_of a.waits; application = apart }
