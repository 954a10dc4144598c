-- The life of a processor: a list of the packets that arrived and of the events between them.
use Rattle.std.specs.Prelude.{◌≡◌, ◌≤◌, ◌<◌, ℕ, ◌+◌, ◌-◌, ◌/◌, ◌%◌, ◌^◌, ◌==◌, true, false, List, [], ◌∷◌, IfSome, Some, slice_get}
use Rattle.std.specs.Prelude.{if◌then◌else◌}
use Rattle.machine_model.specs.{Application.went_on, Machine.{PacketArrives, Finishes, Machine, opened_machine}}
use Rattle.machine_model.specs.Processor.{Advances, ProcessorView, arrives, is_due, opened_processor, step}
use Rattle.machine_model.specs.declared.settings.MachineSettings.{MachineSettings}

-- Law: the events on a processor up to a time are determined.
abbrev pub RunsAsOne : Type 0
RunsAsOne = (moment : ℕ) (p q r : ProcessorView) → Advances moment p q → Advances moment p r → q ≡ r

-- Law: an arrival leads from each machine to exactly one machine.
abbrev pub ArrivesAsOne : Type 0
ArrivesAsOne = (moment device : ℕ) (before after other : Machine) → PacketArrives moment device before after
    → PacketArrives moment device before other
    → after ≡ other

-- ---- the life of a processor

-- a packet arrives at a time for the queue with this number, or the next event happens: work ends or a timer expires
pub data MachineEvent : Type 0 where
  packet : ℕ → ℕ → MachineEvent
  next : MachineEvent

-- the processor after these events, from a new one on; the last event is the first of the list
unfoldable pub behind : MachineSettings → List MachineEvent → ProcessorView
behind s [] = opened_processor s
behind s (packet moment number ∷ earlier) = arrives moment number (behind s earlier)
behind s (next ∷ earlier) = step (behind s earlier)

-- the events are in order: everything that is due up to a time happens before a packet that arrives at that time, and times
-- don't decrease
unfoldable pub InTurn : MachineSettings → ℕ → List MachineEvent → Type 0
InTurn s until [] = Unit {0}
InTurn s until (packet moment number ∷ earlier) = (moment ≤ until) × (is_due moment (behind s earlier) ≡ false) × InTurn s moment earlier
InTurn s until (next ∷ earlier) = (is_due until (behind s earlier) ≡ true) × InTurn s until earlier

-- the packets among these events, each as its arrival time and its queue's number
unfoldable pub packets_in : List MachineEvent → List (ℕ × ℕ)
packets_in [] = []
packets_in (packet moment number ∷ earlier) = (moment, number) ∷ packets_in earlier
packets_in (next ∷ earlier) = packets_in earlier

pub record Lived (s : MachineSettings) (until : ℕ) (packets : List (ℕ × ℕ)) (p : ProcessorView) : Type 0 where
  pub events : List MachineEvent
  pub behind : p ≡ behind s events
  pub turns : InTurn s until events
  pub came : packets_in events ≡ packets

-- the packets that arrived at a machine, the last one first: the time and the queue of each; and those of one processor
unfoldable pub Took : MachineSettings → ℕ → List (ℕ × ℕ) → Machine → Type 0
Took s until [] m = m ≡ opened_machine s
Took s until ((moment, device) ∷ earlier) m =
    (moment ≤ until) × (before : Machine) × Took s moment earlier before × PacketArrives moment device before m

unfoldable pub own_packets : ℕ → ℕ → List (ℕ × ℕ) → List (ℕ × ℕ)
own_packets processors processor [] = []
own_packets processors processor ((moment, device) ∷ earlier) =
    if (device - 1) % processors == processor then (moment, (device - 1) / processors) ∷ own_packets processors processor earlier
    else own_packets processors processor earlier

-- a processor with such a life, on which nothing is left to happen, and whose application has finished its work
pub record Ended (s : MachineSettings) (packets : List (ℕ × ℕ)) (p : ProcessorView) : Type 0 where
  pub ready : ProcessorView
  pub lived : Lived s (2 ^ 64 - 1) packets ready
  pub none : is_due (2 ^ 64 - 1) ready ≡ false
  pub finishes : p ≡ record ready { application = went_on (2 ^ 64 - 1) ready.settings.use_time ready.application }

-- Law: each processor of a machine has such a life, with the packets of its own queues; when the machine has finished, nothing
-- is left.
abbrev pub EachLives : Type 0
EachLives = (s : MachineSettings) (until : ℕ) (packets : List (ℕ × ℕ)) (m : Machine) → Took s until packets m
    → ((number : ℕ) (p : ProcessorView) → slice_get m number ≡ Some p → Lived s until (own_packets s.processors number packets) p)
    × ((after : Machine) → until < 2 ^ 64 → Finishes m after
    → (number : ℕ) (p : ProcessorView) → slice_get after number ≡ Some p → Ended s (own_packets s.processors number packets) p)

-- Law: with no further packets, the events on a processor end.
abbrev pub EveryRunEnds : Type 0
EveryRunEnds = (s : MachineSettings) (until : ℕ) (events : List MachineEvent) → (q : ProcessorView) × Advances until (behind s events) q

-- Law: a run's work is less than budget plus weight.
abbrev pub WorksWithin : Type 0
WorksWithin = (s : MachineSettings) (events : List MachineEvent)
    → IfSome (behind s events).softirq.run (λ run. run.work < s.budget + s.weight)
