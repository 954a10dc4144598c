-- How a poll ends: the instance is released exactly if no request was missed before the end, and has to be queued again exactly
-- if one was.
use Rattle.{napi_word.specs.declared.table.Pass.Pass}
use Rattle.{c_handles.specs.{Handles.IsCallerWith, declared.{caller.CallerObject.CallerObject, body.Object.Object}}}
use Rattle.std.specs.Prelude.{◌≡◌}
use Rattle.napi_model.specs.{History.state_after, declared.event.{Event.Event, Done.Done}, Step.{opening, event}}
use Rattle.std.specs.Prelude.{Bool, List, [], ◌∷◌, ◌++◌, Option, Some, None}
use Rattle.napi_calls.specs.Seats.{pass_number, controller_of, shown}
use Rattle.napi_model.specs.declared.event.Operation.TheVariants as operation

-- the last event that the pass shows is its own completion with this reply, and just before that event the flag MISSED had this
-- value
abbrev pub EndsByReply : Done → Bool → Pass → Type 0
EndsByReply reply missed p = (before : List Event) × (shown p ≡ before ++ event (pass_number p) (operation.Complete reply) ∷ [])
    × ((state_after (opening (controller_of p)) before).flags.missed ≡ missed)

abbrev pub LeadsToCaller : (CallerObject → Type 0) → Option Object → Type 0
LeadsToCaller P None = ⊥
LeadsToCaller P (Some x) = IsCallerWith P x
