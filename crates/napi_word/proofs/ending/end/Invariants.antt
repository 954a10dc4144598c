use Rattle.std.proofs.Common.{◌≡◌, List, ◌++◌}
use Rattle.napi_word.specs.{declared.table.Pass.Pass, Ends.{IsGatheredOf, Gathered}}
use Rattle.napi_word.proofs.ending.end.Given as goal

abbrev pub invariant-loop-pass : goal.invariant-loop-pass
invariant-loop-pass l =
    IsGatheredOf l.table l.gathering
    × ((taken : List Pass) × (l.fn.passes.items ≡ l.passes.items ++ taken) × Gathered taken l.gathering.seat.me.0 l.gathering.found)

abbrev pub decreases-loop-pass : goal.decreases-loop-pass
decreases-loop-pass l = goal.left-loop-pass l
