-- The queues of a processor, by their numbers there.
use Rattle.std.specs.Prelude.{ℕ, ◌+◌, ◌-◌, nat_le, Bool, false, [], ◌∷◌, ◌++◌, length, replicate, Option, Some, None, if◌then◌else◌}
use Rattle.std.specs.Option.{option_and_then, option_map, option_map_or}
use Rattle.device_places.specs.Places.{DeviceTable, added}
use Rattle.machine_model.specs.declared.devices.Timer.{Timer}
use Rattle.machine_model.specs.declared.settings.MachineSettings.{MachineSettings}
use Rattle.machine_model.specs.Device.{QueueView, asks, is_missed, is_rescheduled, is_fired, schedules, has_room, next_held, next_packet}
use Rattle.machine_model.specs.Device.{new_queue, pulls, starts_timer, timer_of}

abbrev pub QueueViews : Type 0
QueueViews = DeviceTable QueueView

-- a queue is created when its first packet arrives
unfoldable pub with_device : ℕ → ℕ → QueueViews → QueueViews
with_device capacity number devices = added number (new_queue capacity) (devices ++ replicate (number + 1 - length devices) None)

-- ---- the queue in an entry of the table, if there is one

abbrev pub asks_at : Option QueueView → Bool
asks_at place = option_map_or (λ d. asks d.phase) place false

abbrev pub is_fired_at : Option QueueView → Bool
is_fired_at place = option_map_or (λ d. is_fired d.phase) place false

abbrev pub is_rescheduled_at : ℕ → MachineSettings → Option QueueView → Bool
is_rescheduled_at given s place = option_map_or (λ d. is_rescheduled given s d) place false

abbrev pub starts_timer_at : ℕ → MachineSettings → Option QueueView → Bool
starts_timer_at given s place = option_map_or (λ d. starts_timer given s d) place false

abbrev pub is_missed_at : Option QueueView → Bool
is_missed_at place = option_map_or (λ d. is_missed d.phase) place false

abbrev pub schedules_at : Option QueueView → Bool
schedules_at place = option_map_or (λ d. schedules d.phase) place false

abbrev pub has_room_at : Option QueueView → Bool
has_room_at place = option_map_or has_room place false

abbrev pub next_packet_at : Bool → Option QueueView → Option ℕ
next_packet_at backlog place = option_and_then (next_packet backlog) place

abbrev pub pulls_at : ℕ → ℕ → Option QueueView → Bool
pulls_at batch given place = option_map_or (pulls batch given) place false

abbrev pub next_held_at : Option QueueView → Option ℕ
next_held_at place = option_and_then next_held place

abbrev pub timer_at : ℕ → Option QueueView → Option Timer
timer_at number place = option_and_then (λ d. option_map (λ at. record { at = at; device = number }) (timer_of d.phase)) place

-- ---- the timer that expires first; if two expire at the same time, that of the lower queue

abbrev pub sooner : Option Timer → Option Timer → Option Timer
sooner None other = other
sooner (Some timer) None = Some timer
sooner (Some timer) (Some other) = if nat_le timer.at other.at then Some timer else Some other

unfoldable pub soonest_from : ℕ → QueueViews → Option Timer
soonest_from number [] = None
soonest_from number (place ∷ more) = sooner (timer_at number place) (soonest_from (number + 1) more)
