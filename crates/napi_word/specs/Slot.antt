-- The slot of the poll context: which caller owns it, and what a seat holds of it (a seat is what `atomic_table` gives a thread
-- for its steps).
use Rattle.std.specs.Prelude.{◌≡◌, ℕ, zero, Bool, true, false, not, ◌&&◌, nat_eq, List, [], ◌∷◌, ◌++◌, Option, Some, None}
use Rattle.{atomic_table.specs.Table.Me, rx_ring.specs.{declared.{packet.Packet.Packet, ends.RxCtx.RxCtx}, Ends.{RingName, ring_name}}}
use Rattle.{rx_ring.specs.Ends.{is_beside, received_list}, napi_model.specs.declared.state.Place.{Place, TheVariants.{Nobody, Granted}}}
use Rattle.napi_model.specs.declared.{state.{Place.TheVariants.{Listed, ToThread, Polling, Control}, State.State}, event.Event.Event}
use Rattle.napi_model.specs.Step.{after}
use Rattle.napi_word.specs.declared.history.{Holds.{Holds, TheVariants.{Nothing, Within, Out}}, LocalHistory.LocalHistory}
use Rattle.napi_word.specs.{declared.history.Delivery.Delivery}
use Rattle.napi_word.specs.{Knowledge.{Knowledge, view_number, place_in, view_ring, delivery, own_deliveries, view_delivered}}
use Rattle.napi_word.specs.Knowledge.{received_in, last_in, first_in, Continues}
use mathlib.Core.List.{IsPrefix}
use lib.ListN.{get_elem?}
use mathlib.Core.Option as maybe

-- the caller that polls or controls owns the slot
abbrev pub has_at : ℕ → Place → Bool
has_at c Nobody = false
has_at c (Granted owner) = false
has_at c Listed = false
has_at c ToThread = false
has_at c (Polling owner) = nat_eq owner c
has_at c (Control owner) = nat_eq owner c

-- some caller owns it
abbrev pub is_out : Place → Bool
is_out Nobody = false
is_out (Granted owner) = false
is_out Listed = false
is_out ToThread = false
is_out (Polling owner) = true
is_out (Control owner) = true

-- an event returns the slot: its caller owned it before, and no caller owns it after
abbrev pub is_given : State → Event → Bool
is_given s e = has_at e.caller s.place && not (is_out (after s e).place)

abbrev pub one_if : Bool → ℕ → List ℕ
one_if true c = c ∷ []
one_if false c = []

-- the callers that returned the slot, in the order of a history
unfoldable pub givers : State → List Event → List ℕ
givers s [] = []
givers s (e ∷ es) = one_if (is_given s e) e.caller ++ givers (after s e) es

-- by the history that it shows, the pass owns the slot
abbrev pub owns_slot : Knowledge → Bool
owns_slot v = has_at (view_number v) (place_in v)

-- ---- what a seat holds of the slot, and the pass's mark for it

abbrev pub Content : Type 0
Content = Option RxCtx

abbrev pub Carried : Type 0
Carried = List (ℕ × Content)

abbrev pub hold_of : Carried → Option Holds
hold_of [] = Some Nothing
hold_of ((zero, Some x) ∷ []) = Some Within
hold_of ((zero, None) ∷ []) = Some Out
hold_of _ = None

abbrev pub has_slot : Holds → Bool
has_slot Nothing = false
has_slot Within = true
has_slot Out = true

-- the ring of the context in the slot, if the seat holds the slot; otherwise the view's ring
abbrev pub ring_in : Carried → Knowledge → Option RingName
ring_in ((k, Some x) ∷ l) v = Some (ring_name x)
ring_in ((k, None) ∷ l) v = view_ring v
ring_in [] v = view_ring v

-- the context in the slot, if the seat holds the slot
abbrev pub ctx_in : Carried → Option RxCtx
ctx_in ((k, x) ∷ l) = x
ctx_in [] = None

-- whether the mark of `beside` is set on that context
abbrev pub beside_in : Carried → Bool
beside_in ((k, Some x) ∷ l) = is_beside x
beside_in ((k, None) ∷ l) = false
beside_in [] = false

-- the packets that the context in the slot has received, if the seat holds the slot; otherwise those that the view shows
abbrev pub carried_received : Carried → Knowledge → List Packet
carried_received ((k, Some x) ∷ l) v = received_list x
carried_received ((k, None) ∷ l) v = received_in v
carried_received [] v = received_in v

-- the pass's mark agrees with what the seat holds: it holds the slot exactly if the view says so, with a context of that ring
-- in it or with none
pub record Tied (h : Holds) (me : Knowledge × Carried) : Type 0 where
  pub marked : hold_of me.1 ≡ Some h
  pub right : owns_slot me.0 ≡ has_slot h
  pub ring : ring_in me.1 me.0 ≡ view_ring me.0
  pub unmarked : beside_in me.1 ≡ false
  -- the context in the slot has received all packets delivered, and maybe more since
  pub received : Continues (received_in me.0) (carried_received me.1 me.0)

-- ---- how a step changes it

pub data Moves : Type 0 where
  stays : Moves
  taken : Moves
  given : Moves

abbrev pub moved : Moves → Holds → Holds
moved stays h = h
moved taken h = Within
moved given h = Nothing

-- ---- what a step shows of the deliveries: all that were made before it, and the caller knows them from then on

-- a slot with its context in it is returned: one more delivery, of what was received since the slot was taken
abbrev pub GivesSlotBack : Bool → List Delivery → Me Content Knowledge → Me Content Knowledge → Type 0
GivesSlotBack true before me me' =
    (x : RxCtx) × (packets : List Packet) × (me.1 ≡ (0, Some x) ∷ []) × (received_list x ≡ received_in me.0 ++ packets)
    × (view_delivered me'.0 ≡ before ++ delivery (view_number me.0) packets x ∷ [])
GivesSlotBack false before me me' = (view_delivered me'.0 ≡ before) × (me'.1 ≡ me.1)

abbrev pub Shifts : Moves → List Delivery → Me Content Knowledge → Me Content Knowledge → Type 0
Shifts stays before me me' = (view_delivered me'.0 ≡ before) × (me'.1 ≡ me.1)
-- the context that is taken is the one that was returned last, and has received all packets delivered
Shifts taken before me me' = (view_delivered me'.0 ≡ before)
    × ((x : RxCtx) × (me'.1 ≡ (0, Some x) ∷ []) × (received_list x ≡ received_in me'.0) × (last_in me'.0 ≡ Some x))
Shifts given before me me' = GivesSlotBack (owns_slot me.0) before me me'

pub record SlotDelivers (m : Moves) (me : Me Content Knowledge) (me' : Me Content Knowledge) : Type 0 where
  -- all deliveries before the step
  pub before : List Delivery
  -- they begin with all that the pass had seen, itself or from passes that it met
  pub begins : (k : ℕ) (x : LocalHistory) → get_elem? me.0 k ≡ maybe.some x → IsPrefix x.delivered before
  -- the caller's own deliveries are those that it knew
  pub exact : own_deliveries (view_number me.0) before ≡ own_deliveries (view_number me.0) (view_delivered me.0)
  -- while the caller owns the slot, no other caller delivers
  pub held : owns_slot me.0 ≡ true → before ≡ view_delivered me.0
  -- the first context stays the same
  pub first : first_in me'.0 ≡ first_in me.0
  pub shifts : Shifts m before me me'
