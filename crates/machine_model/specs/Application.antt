-- The application, which uses the packets of a socket: on the processor that receives, or on one of its own.
use Rattle.std.specs.Prelude.{ℕ, ◌+◌, ◌-◌, ◌==◌, ◌&&◌, not, nat_le, nat_lt, Bool, true, false, List, [], ◌∷◌, ◌++◌, length, if◌then◌else◌}
use Rattle.{circular_buffer.specs.Buffer.{Buffer, buffer}, machine_model.specs.declared.settings.MachineSettings.MachineSettings}
use Rattle.machine_model.specs.{declared.application.Activity.Activity, Waits.{WaitsView, counted, saturated, no_waits}}
use Rattle.machine_model.specs.declared.application.Activity.TheVariants.{Asleep, Waking, Using}

pub record ApplicationView : Type 0 where
  -- the arrival times of the packets in its socket, the oldest first
  pub socket : Buffer ℕ
  -- packets that a full socket dropped
  pub refused : ℕ
  -- the waits of its packets, from arrival to the end of the use
  pub waits : WaitsView
  -- only on its own processor: what it does, when that ends or the last use ended, and how often it was woken
  pub activity : Activity
  pub end : ℕ
  pub wakes : ℕ
  -- only on the processor that polls: whether it sleeps
  pub sleeps : Bool

abbrev pub opened_application : MachineSettings → ApplicationView
opened_application s =
    record { socket = buffer [] s.socket; refused = 0; waits = no_waits; activity = Asleep; end = 0; wakes = 0; sleeps = true }

-- a packet's use ends; `came` is when the packet arrived
abbrev pub used : ℕ → ℕ → ApplicationView → ApplicationView
used now came a = record a { waits = counted (now - came) a.waits }

-- ---- on the processor that polls

-- the time of a use; an application that sleeps is woken first
abbrev pub use_length : MachineSettings → ApplicationView → ℕ
use_length s a = s.use_time + (if a.sleeps then s.app_wake else 0)

-- The delivery that wakes it takes so much more (`sock_def_readable`, `try_to_wake_up`). Later ones find a packet in the socket, until it
-- sleeps again.
abbrev pub waking_length : MachineSettings → ApplicationView → ℕ
waking_length s a = if not s.apart && a.sleeps && length a.socket.items == 0 then s.poll_wake else 0

-- it takes this packet, the oldest one, out of the socket, which has these packets after it
abbrev pub takes_up_packet : List ℕ → ApplicationView → ApplicationView
takes_up_packet more a = record a { socket = buffer more a.socket.capacity; sleeps = false }

-- a packet's use ends; if the socket is empty, it sleeps
abbrev pub use_ended : ℕ → ℕ → ApplicationView → ApplicationView
use_ended now came a = record (used now came a) { sleeps = length a.socket.items == 0 }

-- ---- on its own processor

abbrev pub is_awake : Activity → Bool
is_awake Asleep = false
is_awake _ = true

-- its current work ends at or before this time
abbrev pub is_use_over : ℕ → ApplicationView → Bool
is_use_over moment a = is_awake a.activity && nat_le a.end moment

-- its work ends: it woke up, or its packet was used
abbrev pub ended_by : Activity → ApplicationView → ApplicationView
ended_by (Using came) a = used a.end came a
ended_by _ a = a

-- it takes the oldest packet out of the socket; if there is none, it sleeps
abbrev pub takes_next : ℕ → List ℕ → ApplicationView → ApplicationView
takes_next use_time [] a = record a { activity = Asleep }
takes_next use_time (came ∷ more) a =
    record a { activity = Using came; end = saturated (a.end + use_time); socket = buffer more a.socket.capacity }

unfoldable pub goes_on : ℕ → ApplicationView → ApplicationView
goes_on use_time a = takes_next use_time a.socket.items (ended_by a.activity a)

-- it works until this time, with at most these packets
unfoldable pub went_on_with : List ℕ → ℕ → ℕ → ApplicationView → ApplicationView
went_on_with [] moment use_time a = if is_use_over moment a then goes_on use_time a else a
went_on_with (came ∷ more) moment use_time a =
    if is_use_over moment a then went_on_with more moment use_time (goes_on use_time a) else a

unfoldable pub went_on : ℕ → ℕ → ApplicationView → ApplicationView
went_on moment use_time a = went_on_with a.socket.items moment use_time a

abbrev pub woken_by : Activity → ℕ → ApplicationView → ApplicationView
woken_by Asleep until a = record a { activity = Waking; end = until; wakes = saturated (a.wakes + 1) }
woken_by _ until a = a

-- ---- a packet is delivered to it

abbrev pub has_place : ApplicationView → Bool
has_place a = nat_lt (length a.socket.items) a.socket.capacity

abbrev pub put : ℕ → ApplicationView → ApplicationView
put came a = record a { socket = buffer (a.socket.items ++ came ∷ []) a.socket.capacity }

abbrev pub refuses : ApplicationView → ApplicationView
refuses a = record a { refused = saturated (a.refused + 1) }

-- a packet is delivered to an application on its own processor, which has worked until this time, and is woken if it sleeps
unfoldable pub fed : ℕ → ℕ → MachineSettings → ApplicationView → ApplicationView
fed now came s a =
    let b = if s.apart then went_on now s.use_time a else a in
    let c = put came b in
    if has_place b then (if s.apart then woken_by c.activity (saturated (now + s.app_wake)) c else c) else refuses b
