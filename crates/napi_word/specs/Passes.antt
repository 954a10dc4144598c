-- The passes of a table, and the effect of a step on one.
use Rattle.std.specs.Prelude.{◌≡◌, ◌≢◌, ℕ, ◌<◌, Bool, true, false, List, [], ◌∷◌, Option, Some}
use Rattle.rx_ring.specs.{declared.{packet.Packet.Packet, ends.RxCtx.RxCtx}, Ends.{RingName, ring_name, SameCtx, received_list, known_list}}
use Rattle.{rx_ring.specs.Ends.{polls_of, is_beside}, napi_model.specs.declared.state.{Kind.Kind, Place.TheVariants.Control}}
use Rattle.napi_model.specs.{declared.event.Operation.Operation, Laws.is_owner}
use Rattle.napi_word.specs.declared.history.Holds.TheVariants.{Nothing}
use Rattle.napi_word.specs.declared.{history.Holds.TheVariants.{Within, Out}, table.{Pass.Pass, StateTable.StateTable}}
use Rattle.napi_word.specs.Knowledge.{Knowledge}
use Rattle.napi_word.specs.{Knowledge.{view_number, view_controller, state_in, place_in, disable_in, view_ring}}
use Rattle.napi_word.specs.{Slot.{Tied, Moves, moved, owns_slot}}
use Rattle.napi_word.specs.{Slot.{ctx_in, carried_received, SlotDelivers}, Rule.new_history, Events.Steps}
use Rattle.napi_model.specs.Step as step

abbrev pub view_of : Pass → Knowledge
view_of p = p.seat.me.0

-- the context in the slot, if the pass owns the slot and the context is in it
abbrev pub ctx_of : Pass → Option RxCtx
ctx_of p = ctx_in p.seat.me.1

-- the context was put into the slot: it is the same, except that the mark of `beside` is cleared
pub record IsStored (ctx : RxCtx) (p : Pass) : Type 0 where
  pub stored : RxCtx
  pub within : ctx_of p ≡ Some stored
  pub ring : SameCtx ctx stored
  pub received : received_list stored ≡ received_list ctx
  pub known : known_list stored ≡ known_list ctx
  pub polls : polls_of stored ≡ polls_of ctx
  pub unmarked : is_beside stored ≡ false

-- the packets that the context in the slot has received, if the pass owns the slot; otherwise the packets delivered, as far as
-- the pass has seen
abbrev pub received_of : Pass → List Packet
received_of p = carried_received p.seat.me.1 (view_of p)

-- the pass belongs to this table
abbrev pub IsPassOf : StateTable → Pass → Type 0
IsPassOf t p = p.seat.table_id ≡ t.table.shared.table_id

abbrev pub SameTable : Pass → Pass → Type 0
SameTable before after = after.seat.table_id ≡ before.seat.table_id

abbrev pub controller_of_table : StateTable → ℕ
controller_of_table t = t.table.shared.key.controller

-- the ring of the context with which the table was made
abbrev pub ring_of_table : StateTable → RingName
ring_of_table t = ring_name t.table.shared.key.ring.value

-- the context with which the table was made
abbrev pub first_of_table : StateTable → RxCtx
first_of_table t = t.table.shared.key.ring.value

-- the contract of every step: the pass made this event, and its hold on the slot changed accordingly
pub record Makes (before : Pass) (o : Operation) (m : Moves) (after : Pass) : Type 0 where
  pub table : SameTable before after
  pub holds : after.holds ≡ moved m before.holds
  pub event : Steps (view_of before) o (view_of after)
  pub packets : SlotDelivers m before.seat.me after.seat.me

-- moving the context isn't an event: what the pass knows doesn't change
pub record Keeps (before : Pass) (after : Pass) : Type 0 where
  pub table : SameTable before after
  pub view : view_of after ≡ view_of before

-- ---- what a step requires of its pass

-- if it owns the slot, the context is in it
abbrev pub IsSlotFilled : Pass → Type 0
IsSlotFilled p = p.holds ≢ Out

abbrev pub PassMayHand : Kind → Pass → Type 0
PassMayHand kind p = step.MayHand (view_number (view_of p)) kind (state_in (view_of p))

-- by the history that it shows, the pass polls the instance; the first argument says whether it busy polls
abbrev pub HasPoll : Bool → Knowledge → Type 0
HasPoll busy v = step.CallerPolls (view_number v) busy (state_in v)

abbrev pub PassPolls : Bool → Pass → Type 0
PassPolls busy p = HasPoll busy (view_of p)

abbrev pub OwnsSlot : Pass → Type 0
OwnsSlot p = owns_slot (view_of p) ≡ true

abbrev pub HasController : Knowledge → Type 0
HasController v = view_number v ≡ view_controller v

abbrev pub IsController : Pass → Type 0
IsController p = HasController (view_of p)

abbrev pub Controls : Pass → Type 0
Controls p = place_in (view_of p) ≡ Control (view_number (view_of p))

abbrev pub IsNoOwner : Pass → Type 0
IsNoOwner p = is_owner (view_number (view_of p)) (place_in (view_of p)) ≡ false

-- the value of the disable flag, as far as the pass has seen
abbrev pub Disable : Bool → Pass → Type 0
Disable on p = disable_in (view_of p) ≡ on

-- the context belongs to the ring that the pass knows
abbrev pub OfItsRing : Pass → RxCtx → Type 0
OfItsRing p ctx = view_ring (view_of p) ≡ Some (ring_name ctx)

abbrev pub tie_of : (p : Pass) → Tied p.holds p.seat.me
tie_of p = record { marked = p.marked; right = p.right; ring = p.ring; unmarked = p.unmarked; received = p.received }

-- the new pass of number c, which has seen and done nothing; the controller's new pass owns the slot, with the context in it
pub record IsNewPass (t : StateTable) (controller : ℕ) (ctx : RxCtx) (c : ℕ) (p : Pass) : Type 0 where
  pub table : IsPassOf t p
  pub view : view_of p ≡ new_history controller ctx c ∷ []
  pub others : c < controller → p.holds ≡ Nothing
  pub own : c ≡ controller → p.holds ≡ Within
  -- the controller's pass has the context with which the table was made, with the mark of `beside` cleared
  pub stored : c ≡ controller → IsStored ctx p
