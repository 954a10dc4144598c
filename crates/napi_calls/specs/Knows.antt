-- What the type of a caller's value implies about its pass.
use Rattle.std.specs.Prelude.{◌≡◌, ℕ, Bool, cond, List, Option, Some, None}
use Rattle.rx_ring.specs.declared.ends.RxCtx.{RxCtx}
use Rattle.rx_ring.specs.{declared.packet.Packet.Packet, Ends.{RingName, ring_name, received_list}}
use Rattle.napi_model.specs.{declared.state.Place.Place, Laws.is_owner, Step.opening, History.{LegalHistory, own}}
use Rattle.napi_word.specs.{Knowledge.{received_in, Continues}, Passes.view_of, declared.{table.Pass.Pass, history.Holds.Holds}}
use Rattle.{napi_word.specs.declared.history.Holds.TheVariants.{Nothing, Out}, napi_calls.specs.Seats.{pass_number, controller_of, shown}}
use Rattle.napi_calls.specs.Seats.{own_list, state_shown, instance_ring}
use Rattle.napi_model.specs.declared.state.Place.TheVariants as place

-- the place as caller c sees it: it sees itself as an owner, and any other owner as Nobody
abbrev pub own_place : ℕ → Place → Place
own_place c p = cond (is_owner c p) p place.Nobody

-- the role of a caller that owns nothing
abbrev pub Free : ℕ → Place
Free c = place.Nobody

-- the pass of number c shows a legal history with exactly c's events in its own list, and c has this place after that history
pub record Stands (role : ℕ → Place) (c : ℕ) (p : Pass) : Type 0 where
  pub number : pass_number p ≡ c
  pub legal : ∥ LegalHistory (controller_of p) (opening (controller_of p)) (shown p) ∥₁
  pub exact : own c (shown p) ≡ own_list p
  pub place : own_place c (state_shown p).place ≡ role c

-- a caller that polls knows whether it busy polls
abbrev pub KnowsBusyPoll : Bool → Pass → Type 0
KnowsBusyPoll busy p = (state_shown p).flags.in_busy_poll ≡ busy

-- what the controller knows: its role, and the disable flag
pub record ControllerKnows (role : ℕ → Place) (disable : Bool) (p : Pass) : Type 0 where
  pub stands : Stands role (controller_of p) p
  pub flag : (state_shown p).flags.disable ≡ disable

abbrev pub held_slot : Option RxCtx → Holds
held_slot (Some x) = Out
held_slot None = Nothing

abbrev pub ring_held : Option RxCtx → Option RingName → Option RingName
ring_held (Some x) ring = Some (ring_name x)
ring_held None ring = ring

abbrev pub received_held : Option RxCtx → List Packet → List Packet
received_held (Some x) known = received_list x
received_held None known = known

-- the value has the poll context, out of the slot, and it belongs to the instance's ring; or the value has no context
pub record Has (p : Pass) (ctx : Option RxCtx) : Type 0 where
  pub holds : p.holds ≡ held_slot ctx
  pub ring : instance_ring p ≡ ring_held ctx (instance_ring p)
  -- the context has received all packets delivered, and maybe more since
  pub received : Continues (received_in (view_of p)) (received_held ctx (received_in (view_of p)))
