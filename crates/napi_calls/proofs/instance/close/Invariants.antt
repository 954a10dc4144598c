use Rattle.std.proofs.Common.{◌≡◌, List, [], ◌∷◌, ◌++◌}
use Rattle.napi_word.specs.Ends.{IsGatheredOf, Gathered}
use Rattle.napi_calls.specs.{declared.types.Caller.Caller, Closed.seats_of}
use Rattle.napi_calls.proofs.instance.close.Given as goal

abbrev pub invariant-loop-caller : goal.invariant-loop-caller
invariant-loop-caller l =
    IsGatheredOf l.table l.gathering
    × ((taken : List Caller) × (l.fn.callers.items ≡ l.callers.items ++ taken)
    × Gathered (seats_of taken ++ l.fn.control.pass ∷ []) l.gathering.seat.me.0 l.gathering.found)

abbrev pub decreases-loop-caller : goal.decreases-loop-caller
decreases-loop-caller l = goal.left-loop-caller l
