-- Histories: lists of events, from a start state that is an argument throughout.
use Rattle.std.specs.Prelude.{◌≡◌, ℕ, Bool, true, false, nat_eq, List, [], ◌∷◌, filter}
use Rattle.napi_model.specs.declared.state.Place.{Place}
use Rattle.napi_model.specs.declared.{state.State.State, event.Operation.{Operation, TheVariants.{Schedule, Take, BusyStop, MarkDisable}}}
use Rattle.napi_model.specs.{declared.event.{Operation.TheVariants.{TakeDisable, Unmark, Enable}, Event.Event}, Step.{after, IsLegal}}
use Rattle.napi_model.specs.Step.{IsControl}
use Rattle.napi_model.specs.declared.event.Prep.TheVariants as prep

-- the state after a history
unfoldable pub state_after : State → List Event → State
state_after s [] = s
state_after s (e ∷ es) = state_after (after s e) es

-- operations of the controller are made under the controller's number, and only those
abbrev pub IsBy : ℕ → ℕ → Operation → Type 0
IsBy controller c MarkDisable = c ≡ controller
IsBy controller c (TakeDisable taken) = c ≡ controller
IsBy controller c Unmark = c ≡ controller
IsBy controller c (Enable threaded) = c ≡ controller
IsBy controller c _ = Unit {0}

-- the event is a legal step, made by a caller that may make it
abbrev pub IsLegalFor : ℕ → State → Event → Type 0
IsLegalFor controller s e = IsLegal s e × IsBy controller e.caller e.operation

unfoldable pub LegalHistory : ℕ → State → List Event → Type 0
LegalHistory controller s [] = Unit {0}
LegalHistory controller s (e ∷ es) = IsLegalFor controller s e × LegalHistory controller (after s e) es

-- the events of one caller in the history, in order
unfoldable pub own : ℕ → List Event → List Event
own caller h = filter (λ (e : Event). nat_eq e.caller caller) h

-- operations that begin a poll: a successful take, and the end of busy polling, after which the caller polls once more
abbrev pub starts_poll : Operation → Bool
starts_poll (Take kind true) = true
starts_poll BusyStop = true
starts_poll _ = false

abbrev pub IsPollStart : Event → Type 0
IsPollStart e = starts_poll e.operation ≡ true

-- a request that must be followed by a poll: it was granted, or it was missed while the instance wasn't the controller's
abbrev pub IsAcceptedAt : Place → Operation → Type 0
IsAcceptedAt place (Schedule prep.Granted) = Unit {0}
IsAcceptedAt place (Schedule prep.Missed) = ¬ IsControl place
IsAcceptedAt place _ = ⊥

abbrev pub IsAcceptedSchedule : State → Event → Type 0
IsAcceptedSchedule s e = IsAcceptedAt s.place e.operation
