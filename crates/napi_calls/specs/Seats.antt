-- What the pass of a caller shows. The other definitions here use only these functions on passes. "Seat" in their names means
-- one caller's place in the instance, which its `Pass` represents.
use Rattle.std.specs.Prelude.{◌≡◌, ℕ, List, Option, Some}
use Rattle.rx_ring.specs.{declared.ends.{RxIn.RxIn, RxCtx.RxCtx}, Ends.RingName}
use Rattle.{rx_ring.specs.Ends.{ring_name, IsOneRing}, napi_model.specs.{declared.{event.Event.Event, state.State.State}, Step.opening}}
use Rattle.{napi_model.specs.History.{LegalHistory, state_after, own}, napi_word.specs.{declared.table.Pass.Pass, Passes.view_of}}
use Rattle.napi_word.specs.Passes.{SameTable}
use Rattle.napi_word.specs.Knowledge as view

-- the number of the pass, and the controller's, which is the greatest
abbrev pub pass_number : Pass → ℕ
pass_number p = view.view_number (view_of p)

abbrev pub controller_of : Pass → ℕ
controller_of p = view.view_controller (view_of p)

-- the history that the pass has seen, and the events of its own calls
abbrev pub shown : Pass → List Event
shown p = view.view_shown (view_of p)

abbrev pub own_list : Pass → List Event
own_list p = view.mine (view_of p)

-- the instance's state after the history that the pass shows
abbrev pub state_shown : Pass → State
state_shown p = state_after (opening (controller_of p)) (shown p)

-- the ring of the context with which the instance was made
abbrev pub instance_ring : Pass → Option RingName
instance_ring p = view.view_ring (view_of p)

-- two passes of the same number of the same instance
pub record SameSeat (p q : Pass) : Type 0 where
  pub table : SameTable p q
  pub number : pass_number q ≡ pass_number p
  pub controller : controller_of q ≡ controller_of p
  pub ring : instance_ring q ≡ instance_ring p

-- the history that the pass shows is legal for the one-thread NAPI object, and its own list is its number's events in it
pub record ShowsLegal (p : Pass) : Type 0 where
  pub legal : LegalHistory (controller_of p) (opening (controller_of p)) (shown p)
  pub exact : own (pass_number p) (shown p) ≡ own_list p

-- this end puts packets into the instance's ring
abbrev pub PutsIntoRingOf : RxIn → Pass → Type 0
PutsIntoRingOf input p = (ctx : RxCtx) × (instance_ring p ≡ Some (ring_name ctx)) × IsOneRing input ctx
