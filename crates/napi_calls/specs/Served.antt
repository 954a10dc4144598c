-- What has to follow an accepted schedule.
use Rattle.std.specs.Prelude.{Bool, true, false, List, [], ◌∷◌}
use Rattle.napi_model.specs.History.{starts_poll}
use Rattle.napi_model.specs.declared.event.{Done.TheVariants.Released, Operation.{Operation, TheVariants.Complete}, Event.Event}

abbrev pub Either : Bool → Type 0 → Type 0 → Type 0
Either true a b = a
Either false a b = b

-- one step of the definition below: what is still required, if the operation starts a poll and if it doesn't
abbrev pub ServedAt : Bool → Operation → Type 0 → Type 0 → Type 0
ServedAt true (Complete Released) started rest = Unit {0}
ServedAt false (Complete Released) started rest = ⊥
ServedAt b o started rest = Either (starts_poll o) started rest

-- a Released follows in these events, and a poll starts before it, unless one has started already (the first argument)
unfoldable pub IsPolledBeforeRelease : Bool → List Event → Type 0
IsPolledBeforeRelease b [] = ⊥
IsPolledBeforeRelease b (e ∷ es) = ServedAt b e.operation (IsPolledBeforeRelease true es) (IsPolledBeforeRelease b es)
