-- What a worker's run adds: the events that each act adds, and the history of the instance that contains them.
use Rattle.std.specs.Prelude.{◌≡◌, ◌⊎◌, ◌≤◌, ℕ, ◌<◌, zero, suc, Bool, true, false, List, [], ◌∷◌, ◌++◌, length, flat_map, if◌then◌else◌}
use Rattle.{std.specs.Prelude.Option, rx_ring.specs.{declared.packet.Packet.Packet, declared.packet.Totals.Totals, ReceiveRing.totals_of}}
use Rattle.napi_model.specs.{declared.state.Seen.Seen, declared.event.Prep.Prep, declared.event.Event.Event}
use Rattle.napi_model.specs.declared.event.Operation.{Operation}
use Rattle.napi_model.specs.declared.event.Operation.TheVariants.{Look, Schedule, Hand, MarkDisable, TakeDisable, Unmark, Enable}
use Rattle.napi_model.specs.{declared.event.Operation.TheVariants.SetThreaded, Step.opening}
use Rattle.napi_calls.specs.{Made.{Lost, events, looks, take_attempt}, Packets.own_delivered, Seats.{pass_number, own_list}}
use Rattle.napi_calls.specs.Closed.{Each, IsHistoryOf}
use Rattle.napi_word.specs.{declared.history.Delivery.Delivery, Knowledge.{deliverers, own_deliveries, packets_of}, Slot.givers}
use Rattle.poll_engine.specs.{Closings.seats_in, declared.acts.Act.Act, declared.station.Closed.Closed, Acts.after_acts}
use mathlib.Core.List.{IsPrefix}
use Rattle.napi_model.specs.declared.state.Kind.TheVariants as kind
use Rattle.napi_model.specs.declared.event.Prep.TheVariants as prep
use Rattle.napi_model.specs.declared.event.Call.TheVariants as call
use Rattle.poll_engine.specs.declared.acts.Act.TheVariants as act

-- ---- a caller's own events: the attempts that failed, and then the one that succeeded

-- queueing of a granted instance: for its own thread if it has one and the state word then shows THREADED, otherwise on the
-- list
abbrev pub IsHandingOver : Bool → List Operation → Type 0
IsHandingOver false os = os ≡ Hand kind.List ∷ []
IsHandingOver true os = (x : Seen) × (os ≡ Look x ∷ Hand (if x.flags.threaded then kind.Thread else kind.List) ∷ [])

abbrev pub IsAnswered : Bool → Prep → List Operation → Type 0
IsAnswered thread prep.Granted os =
    (x : Seen) × (over : List Operation) × IsHandingOver thread over × (os ≡ Look x ∷ Schedule prep.Granted ∷ over)
IsAnswered thread prep.Missed os = (x : Seen) × (os ≡ Look x ∷ Schedule prep.Missed ∷ [])
IsAnswered thread prep.Disabled os = os ≡ Schedule prep.Disabled ∷ []

-- an interrupt (`napi_schedule`)
abbrev pub IsInterrupt : Bool → List Operation → Type 0
IsInterrupt thread os = (ts : List (Lost call.Schedule)) × (reply : Prep) × (rest : List Operation) × IsAnswered thread reply rest
    × (os ≡ flat_map looks ts ++ rest)

-- `napi_enable`
abbrev pub IsEnabling : Bool → List Operation → Type 0
IsEnabling threaded os = (ts : List (Lost (call.Enable threaded))) × (x : Seen) × (os ≡ flat_map looks ts ++ Look x ∷ Enable threaded ∷ [])

-- `napi_disable`
abbrev pub IsDisabling : List Operation → Type 0
IsDisabling os = (ts : List (Option (Lost call.TakeDisable))) × (x : Seen)
    × (os ≡ (MarkDisable ∷ flat_map take_attempt ts) ++ Look x ∷ TakeDisable true ∷ Unmark ∷ [])

-- ---- a worker's ledger: a record of what it did

-- The owner of a ledger: the numbers of its caller and of its controller, the capacity of its ring, and whether the instance
-- has its own thread.
pub record Whose : Type 0 where
  pub caller : ℕ
  pub controller : ℕ
  pub places : ℕ
  pub thread : Bool

-- What a worker did so far: the events of its caller and of its controller, and the packets that were put. Also whether the
-- instance is enabled, and the threaded setting that the next enable writes.
pub record Ledger : Type 0 where
  pub calls : List Event
  pub controls : List Event
  pub put : List Packet
  pub on : Bool
  pub threaded : Bool

abbrev pub blank : Ledger
blank = record { calls = []; controls = []; put = []; on = false; threaded = false }

-- a packet is put, and its interrupt requests a poll
abbrev pub Puts : Whose → Packet → Ledger → Ledger → Type 0
Puts w packet a b =
    (os : List Operation) × IsInterrupt w.thread os × (b ≡ record a { put = a.put ++ packet ∷ []; calls = a.calls ++ events w.caller os })

-- a full ring drops the packet, and no poll is requested
abbrev pub Drops : Whose → Ledger → Ledger → Type 0
Drops w a b = (w.places ≤ length a.put) × (b ≡ a)

-- enables the instance; one that is enabled stays as it is
abbrev pub SwitchesOn : Whose → Bool → Ledger → Ledger → Type 0
SwitchesOn w true a b = b ≡ a
SwitchesOn w false a b =
    (os : List Operation) × IsEnabling a.threaded os × (b ≡ record a { controls = a.controls ++ events w.controller os; on = true })

-- disables the instance; one that is disabled stays as it is
abbrev pub SwitchesOff : Whose → Bool → Ledger → Ledger → Type 0
SwitchesOff w true a b =
    (os : List Operation) × IsDisabling os × (b ≡ record a { controls = a.controls ++ events w.controller os; on = false })
SwitchesOff w false a b = b ≡ a

-- what one act adds to the ledger
abbrev pub Adds : Whose → Act → Ledger → Ledger → Type 0
Adds w (act.Arrive packet) a b = Puts w packet a b ⊎ Drops w a b
Adds w act.Disable a b = SwitchesOff w a.on a b
Adds w act.Enable a b = SwitchesOn w a.on a b
Adds w (act.SetThreaded threaded) a b = b ≡ record a { calls = a.calls ++ events w.caller (SetThreaded threaded ∷ []); threaded = threaded }
Adds w act.Nothing a b = b ≡ a

-- what the first n acts add, each made once and in order
abbrev pub AllAdd : {D : Type 0} → Whose → (D → ℕ → Act) → (D → ℕ → D) → D → ℕ → Ledger → Ledger → Type 0
AllAdd w answer after d zero a b = b ≡ a
AllAdd w answer after d (suc n) a b = (m : Ledger) × AllAdd w answer after d n a m × Adds w (answer (after_acts after d n) n) m b

-- a worker's whole run: the instance is enabled, n acts are made, and it is disabled
abbrev pub WorksBy : {D : Type 0} → Whose → (D → ℕ → Act) → (D → ℕ → D) → D → ℕ → Ledger → Ledger → Type 0
WorksBy w answer after d n a b =
    (on : Ledger) × (acted : Ledger) × SwitchesOn w a.on a on × AllAdd w answer after d n on acted × SwitchesOff w acted.on acted b

-- ---- the whole run of a station, with all its threads

-- Its instance has three callers: of its worker, of its poller and of its own thread. So its controller has number 3.
abbrev pub worker_number : ℕ
worker_number = 0

abbrev pub poller_number : ℕ
poller_number = 1

abbrev pub thread_number : ℕ
thread_number = 2

abbrev pub controller_number : ℕ
controller_number = 3

-- The instance was closed: the calls of all its callers form one history.
pub record IsEnded (closed : Closed) (put : List Packet) (totals : Totals) : Type 0 where
  pub history : List Event
  -- The history is legal. Each caller's own events in it are exactly those that it made, and no other number has one. At the
  -- end the controller owns the instance. Every accepted schedule is followed by a Released, with a poll start between the two.
  pub is : IsHistoryOf controller_number (seats_in closed) history
  -- each owner that returned the context delivered what it had polled; all deliveries together are the first packets put, each
  -- once and in order
  pub deliveries : List Delivery
  pub deliverers_are : deliverers deliveries ≡ givers (opening controller_number) history
  pub in_order : IsPrefix (packets_of deliveries) put
  -- each caller's own deliveries are those that it made, and no other number has one
  pub own_exact : Each (seats_in closed) (λ p. own_deliveries (pass_number p) deliveries ≡ own_delivered p)
  pub own_only : (c : ℕ) → controller_number < c → own_deliveries c deliveries ≡ []
  -- the totals are those of the packets put and delivered
  pub totals_are : totals ≡ totals_of (record { put = put; received = packets_of deliveries })

-- a station with this ring capacity, with a thread or without, whose device made n acts, and whose instance was closed
pub record HasRun {D : Type 0} (answer : D → ℕ → Act) (after : D → ℕ → D) (places : ℕ) (thread : Bool) (d : D) (n : ℕ)
    (closed : Closed) (totals : Totals) : Type 0 where
  -- the ledger of its worker after these acts
  pub left : Ledger
  pub works : WorksBy
      (record { caller = worker_number; controller = controller_number; places = places; thread = thread }) answer after d n blank left
  pub numbers : (pass_number closed.worker.value.pass ≡ worker_number) × (pass_number closed.control.value.pass ≡ controller_number)
  pub calls_are : own_list closed.worker.value.pass ≡ left.calls
  pub controls_are : own_list closed.control.value.pass ≡ left.controls
  pub ended : IsEnded closed left.put totals
  -- the ring holds at most its capacity
  pub few : totals.left ≤ places
