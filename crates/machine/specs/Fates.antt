-- The fate of a queue's packets over a processor's life. Lists are in the order of the events.
use Rattle.std.specs.Prelude.{◌≡◌, ℕ, ◌+◌, ◌-◌, ◌==◌, ◌&&◌, not, Bool, true, false, List, [], ◌∷◌, ◌++◌, length, map}
use Rattle.std.specs.Prelude.{Option, Some, None, if◌then◌else◌, option_map}
use Rattle.device_places.specs.Places.{at}
use Rattle.machine_model.specs.declared.settings.MachineSettings.{MachineSettings}
use Rattle.machine.specs.Lives.{MachineEvent, behind, next, packet}
use Rattle.machine_model.specs.{Device.QueueView, Devices.{has_room_at, next_packet_at, with_device}}
use Rattle.machine_model.specs.{Processor.{ProcessorView, is_polling, upcoming}, Waits.{WaitsView, counted, saturated, no_waits}}
use Rattle.machine_model.specs.declared.device.{QueueCounts.QueueCounts, TheConstants.QueueCounts.NONE}
use Rattle.machine_model.specs.declared.processor.{Work.Work, Upcoming.Upcoming}
use Rattle.machine_model.specs.declared.processor.Work.TheVariants.{Interrupt, Packet}
use Rattle.machine_model.specs.declared.processor.Upcoming.TheVariants.{Ends}

abbrev pub queue_ring : Option QueueView → List ℕ
queue_ring None = []
queue_ring (Some d) = d.ring

abbrev pub taken_in : Option QueueView → List ℕ
taken_in None = []
taken_in (Some d) = d.taken

-- whether there is room in its ring for a packet that arrives for this queue now
abbrev pub finds_room : ℕ → ProcessorView → Bool
finds_room n p = has_room_at (at n (with_device p.settings.ring n p.devices))

-- the packets of a queue that found room when they arrived (true), or that were dropped (false)
unfoldable pub came : Bool → ℕ → MachineSettings → List MachineEvent → List ℕ
came room n s [] = []
came room n s (next ∷ earlier) = came room n s earlier
came true n s (packet moment number ∷ earlier) =
    came true n s earlier ++ (if number == n && finds_room n (behind s earlier) then moment ∷ [] else [])
came false n s (packet moment number ∷ earlier) =
    came false n s earlier ++ (if number == n && not (finds_room n (behind s earlier)) then moment ∷ [] else [])

-- the queue and the packet that work delivers when it ends: the packet that a poll processed; without polling, the oldest one
-- in the ring
abbrev pub delivery_of : Work → ProcessorView → Option (ℕ × ℕ)
delivery_of (Packet hand) p = Some (hand.device, hand.came)
delivery_of (Interrupt number) p =
    if is_polling p.settings then None else option_map (λ came. (number, came)) (next_packet_at false (at number p.devices))
delivery_of _ p = None

-- what the next event delivers
abbrev pub delivery_by : Upcoming → ProcessorView → Option (ℕ × ℕ)
delivery_by Ends p = delivery_of p.work p
delivery_by _ p = None

unfoldable pub next_delivery : ProcessorView → Option (ℕ × ℕ)
next_delivery p = delivery_by (upcoming p) p

abbrev pub packet_for : ℕ → Option (ℕ × ℕ) → List ℕ
packet_for n None = []
packet_for n (Some (number, came)) = if number == n then came ∷ [] else []

-- the packets of a queue that were delivered
unfoldable pub delivered_packets : ℕ → MachineSettings → List MachineEvent → List ℕ
delivered_packets n s [] = []
delivered_packets n s (packet moment number ∷ earlier) = delivered_packets n s earlier
delivered_packets n s (next ∷ earlier) = delivered_packets n s earlier ++ packet_for n (next_delivery (behind s earlier))

-- the packet of a queue that a poll processes
abbrev pub hand_of : ℕ → Work → List ℕ
hand_of n (Packet hand) = if hand.device == n then hand.came ∷ [] else []
hand_of n _ = []

-- Law: a packet that found room is delivered once and in order, or it is still in its queue: in use by a poll, moved by
-- `process_backlog`, or in the ring.
abbrev pub DeliversInOrder : Type 0
DeliversInOrder = (s : MachineSettings) (n : ℕ) (events : List MachineEvent)
    → let p = behind s events in
    came true n s events ≡ delivered_packets n s events ++ (hand_of n p.work ++ (taken_in (at n p.devices) ++ queue_ring (at n p.devices)))

-- counts with these waits added, one by one
unfoldable pub counting : List ℕ → WaitsView → WaitsView
counting [] w = w
counting (wait ∷ more) w = counting more (counted wait w)

-- the waits of a queue's packets, from arrival to delivery
unfoldable pub packet_waits : ℕ → MachineSettings → List MachineEvent → List ℕ
packet_waits n s [] = []
packet_waits n s (packet moment number ∷ earlier) = packet_waits n s earlier
packet_waits n s (next ∷ earlier) = let p = behind s earlier in packet_waits n s earlier
    ++ map (λ came. p.ends - came) (packet_for n (next_delivery p))

-- the counts of a queue; zeros for a queue that doesn't exist
abbrev pub queue_counts_in : Option QueueView → QueueCounts
queue_counts_in None = NONE
queue_counts_in (Some d) = d.counts

abbrev pub waits_in : Option QueueView → WaitsView
waits_in None = no_waits
waits_in (Some d) = d.waits

pub record CountsPackets (n : ℕ) (s : MachineSettings) (events : List MachineEvent) (device : Option QueueView) : Type 0 where
  pub arrived : (queue_counts_in device).arrived ≡ saturated (length (came true n s events) + length (came false n s events))
  pub dropped : (queue_counts_in device).dropped ≡ saturated (length (came false n s events))
  pub polled : (queue_counts_in device).polled ≡ saturated (length (delivered_packets n s events))
  pub waits : waits_in device ≡ counting (packet_waits n s events) no_waits

-- Law: the counts of a queue, and its waits, are those of its packets.
abbrev pub CountsOfQueue : Type 0
CountsOfQueue = (s : MachineSettings) (n : ℕ) (events : List MachineEvent) → CountsPackets n s events (at n (behind s events).devices)
