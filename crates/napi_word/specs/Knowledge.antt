-- What a thread knows of an instance, as contracts see it.
use Rattle.std.specs.Prelude.{ℕ, nat_eq, Bool, false, is_some, unwrap_or, List, [], ◌∷◌, ◌++◌, filter, length, drop, ◌≡◌, Option, Some}
use Rattle.{std.specs.Prelude.None, rx_ring.specs.{declared.{packet.Packet.Packet, ends.RxCtx.RxCtx}, Ends.{RingName, ring_name}}}
use Rattle.{rx_ring.specs.Ends.received_list, napi_model.specs.declared.{state.{Place.Place, State.State}, event.Event.Event}}
use Rattle.napi_model.specs.{Step.opening, History.state_after}
use Rattle.napi_word.specs.declared.history.{LocalHistory.LocalHistory, Delivery.Delivery}

-- the first local history is the pass's own; the others are from the passes that it joined
abbrev pub Knowledge : Type 0
Knowledge = List LocalHistory

-- a pass has a number and its own list
abbrev pub is_pass : Knowledge → Bool
is_pass [] = false
is_pass (x ∷ xs) = is_some x.number

-- the history that a pass shows: a prefix of the table's history
abbrev pub view_shown : Knowledge → List Event
view_shown [] = []
view_shown (x ∷ xs) = x.seen

-- its own events
abbrev pub mine : Knowledge → List Event
mine [] = []
mine (x ∷ xs) = x.mine

abbrev pub view_number : Knowledge → ℕ
view_number [] = 0
view_number (x ∷ xs) = unwrap_or x.number 0

-- the controller's number
abbrev pub view_controller : Knowledge → ℕ
view_controller [] = 0
view_controller (x ∷ xs) = x.controller

-- the ring of the table's first context
abbrev pub view_ring : Knowledge → Option RingName
view_ring [] = None
view_ring (x ∷ xs) = Some (ring_name x.ring)

-- ---- deliveries

abbrev pub delivery : ℕ → List Packet → RxCtx → Delivery
delivery c packets ctx = record { by = c; packets = packets; ctx = ctx }

-- the numbers of the callers that delivered, in order
abbrev pub deliverers : List Delivery → List ℕ
deliverers [] = []
deliverers (d ∷ ds) = d.by ∷ deliverers ds

-- the packets of deliveries, in order
abbrev pub packets_of : List Delivery → List Packet
packets_of [] = []
packets_of (d ∷ ds) = d.packets ++ packets_of ds

-- the context as it was last returned to the slot, or the first context if it never was
abbrev pub last_of : RxCtx → List Delivery → RxCtx
last_of ring [] = ring
last_of ring (d ∷ ds) = last_of d.ctx ds

-- a caller's own deliveries, in order
unfoldable pub own_deliveries : ℕ → List Delivery → List Delivery
own_deliveries c ds = filter (λ (d : Delivery). nat_eq d.by c) ds

-- the packets that a context has received after these deliveries, if it was this one at first
abbrev pub received_by : RxCtx → List Delivery → List Packet
received_by ring ds = received_list ring ++ packets_of ds

-- the second list continues the first
abbrev pub Continues : List Packet → List Packet → Type 0
Continues before after = after ≡ before ++ drop (length before) after

-- the deliveries that a pass has seen: a prefix of all deliveries
abbrev pub view_delivered : Knowledge → List Delivery
view_delivered [] = []
view_delivered (x ∷ xs) = x.delivered

-- the packets that the context has received by these deliveries
abbrev pub received_in : Knowledge → List Packet
received_in [] = []
received_in (x ∷ xs) = received_by x.ring x.delivered

-- the first context of the table
abbrev pub first_in : Knowledge → Option RxCtx
first_in [] = None
first_in (x ∷ xs) = Some x.ring

-- the context that was last returned to the slot
abbrev pub last_in : Knowledge → Option RxCtx
last_in [] = None
last_in (x ∷ xs) = Some (last_of x.ring x.delivered)

-- the state after a list of events, from the state of a new table
abbrev pub state_at : Knowledge → List Event → State
state_at v h = state_after (opening (view_controller v)) h

-- the state after the history that the pass shows
abbrev pub state_in : Knowledge → State
state_in v = state_at v (view_shown v)

abbrev pub place_in : Knowledge → Place
place_in v = (state_in v).place

abbrev pub disable_in : Knowledge → Bool
disable_in v = (state_in v).flags.disable

abbrev pub busy_in : Knowledge → Bool
busy_in v = (state_in v).flags.in_busy_poll
