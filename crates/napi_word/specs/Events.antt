-- The contract of every step on the table: one more event in the history.
use Rattle.std.specs.Prelude.{◌≡◌, ℕ, Bool, true, false, List, [], ◌∷◌, ◌++◌, Option, Some, None, Result, Ok, Err}
use Rattle.napi_model.specs.declared.{state.Seen.Seen, event.{Prep.Prep, Done.Done, Operation.{Operation, TheVariants.{Look, Schedule}}}}
use Rattle.napi_model.specs.{declared.event.{Operation.TheVariants.{Complete, TakeDisable}, Event.Event}, Step.{event, opening}}
use Rattle.napi_model.specs.{History.{LegalHistory, own}, Laws.is_owner}
use Rattle.napi_word.specs.{declared.history.LocalHistory.LocalHistory, Knowledge.Knowledge}
use Rattle.napi_word.specs.Knowledge.{is_pass, view_shown, mine, view_number, view_controller, view_ring, state_at, place_in, disable_in}
use Rattle.napi_word.specs.Knowledge.{busy_in}
use mathlib.Core.List.{IsPrefix}
use lib.ListN.{get_elem?}
use mathlib.Core.Option as maybe
use Rattle.napi_model.specs.declared.event.Prep.TheVariants as prep

-- the pass made this event, after everything that had happened before it
pub record Steps (v : Knowledge) (o : Operation) (w : Knowledge) : Type 0 where
  -- the complete history before the event
  pub before : List Event
  -- it begins with all that the pass had seen, itself or from passes that it met
  pub begins : (k : ℕ) (x : LocalHistory) → get_elem? v k ≡ maybe.some x → IsPrefix x.seen before
  -- the event comes next, and then the pass shows the complete history
  pub ends : view_shown w ≡ before ++ event (view_number v) o ∷ []
  -- the history is legal
  pub legal : LegalHistory (view_controller v) (opening (view_controller v)) (view_shown w)
  -- the own list grew by exactly this event, and is the caller's events in the history
  pub grows : mine w ≡ mine v ++ event (view_number v) o ∷ []
  pub exact : own (view_number v) (view_shown w) ≡ mine w
  -- the number, the controller and the ring of the pass don't change
  pub pass : is_pass w ≡ true
  pub number : view_number w ≡ view_number v
  pub controller : view_controller w ≡ view_controller v
  pub ring : view_ring w ≡ view_ring v
  -- what other callers can't have changed since the pass's last step: whether it owns the instance, in which place, and whether
  -- it busy polls; for the controller also the disable flag
  pub owner : is_owner (view_number v) (state_at v before).place ≡ is_owner (view_number v) (place_in v)
  pub place : is_owner (view_number v) (place_in v) ≡ true → (state_at v before).place ≡ place_in v
  pub busy : is_owner (view_number v) (place_in v) ≡ true → (state_at v before).flags.in_busy_poll ≡ busy_in v
  pub disable : view_number v ≡ view_controller v → (state_at v before).flags.disable ≡ disable_in v

-- ---- the operation that each result of a step stands for

abbrev pub by_load : Option Seen → Operation
by_load None = Schedule prep.Disabled
by_load (Some x) = Look x

abbrev pub by_schedule : Result Prep Seen → Operation
by_schedule (Ok p) = Schedule p
by_schedule (Err x) = Look x

abbrev pub by_complete : Result Done Seen → Operation
by_complete (Ok d) = Complete d
by_complete (Err x) = Look x

abbrev pub by_take_load : Option Seen → Operation
by_take_load None = TakeDisable false
by_take_load (Some x) = Look x

-- the operation of a compare-exchange: this one if it succeeds, otherwise a look
abbrev pub by_swap : Operation → Result (Unit {0}) Seen → Operation
by_swap o (Ok u) = o
by_swap o (Err x) = Look x
