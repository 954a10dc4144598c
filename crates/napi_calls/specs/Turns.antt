-- Two callers that alternate, each of whose calls succeeds in one attempt, and all their events. Caller 0 is granted the
-- instance, queues it on the list, doesn't find it there, and requests another poll while caller 1 polls it; caller 1 queues it
-- again, and caller 0 polls it.
use Rattle.std.specs.Prelude.{◌≡◌, true, false, List, [], ◌∷◌, length}
use Rattle.napi_model.specs.declared.state.Seen.{Seen}
use Rattle.napi_model.specs.declared.{state.Place.TheVariants.Control, event.{Event.Event, Operation.{Operation, TheVariants.Look}}}
use Rattle.napi_model.specs.declared.event.Operation.TheVariants.{Schedule, Hand, Take, Complete, MarkDisable, TakeDisable, Unmark, Enable}
use Rattle.{napi_model.specs.{Step.opening, History.{LegalHistory, state_after, own}}, napi_calls.specs.Made.events}
use Rattle.napi_model.specs.declared.state.Kind.TheVariants as kind
use Rattle.napi_model.specs.declared.event.Prep.TheVariants as prep
use Rattle.napi_model.specs.declared.event.Done.TheVariants as done

-- the states that their looks show are arguments
abbrev pub by_first : Seen → Seen → Seen → Seen → List Operation
by_first w x y z =
    Look w ∷ Look x ∷ Schedule prep.Granted ∷ Hand kind.List ∷ Take kind.List false ∷ Look y ∷ Schedule prep.Missed ∷ Take kind.List true
    ∷ Look z ∷ Complete done.Released ∷ []

abbrev pub by_second : Seen → Seen → List Operation
by_second x y = Look x ∷ Take kind.List true ∷ Look y ∷ Complete done.Again ∷ Hand kind.List ∷ []

abbrev pub by_controller : Seen → Seen → List Operation
by_controller x y = Look x ∷ Enable false ∷ MarkDisable ∷ Look y ∷ TakeDisable true ∷ Unmark ∷ []

-- the history of the instance: 21 events, of which caller 0 made 10, caller 1 5 and the controller 6
pub record IsHistoryInTurns (h : List Event) : Type 0 where
  pub legal : LegalHistory 2 (opening 2) h
  pub ends : (state_after (opening 2) h).place ≡ Control 2
  pub first : (w : Seen) × (x : Seen) × (y : Seen) × (z : Seen) × (own 0 h ≡ events 0 (by_first w x y z))
  pub second : (x : Seen) × (y : Seen) × (own 1 h ≡ events 1 (by_second x y))
  pub controller : (x : Seen) × (y : Seen) × (own 2 h ≡ events 2 (by_controller x y))
  pub all : length h ≡ 21
