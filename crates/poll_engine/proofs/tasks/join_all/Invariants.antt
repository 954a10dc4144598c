use Rattle.std.proofs.Common.{◌≡◌, ◌+◌, ◌≤◌, ◌++◌, List, vec_len, vec_capacity, vec_items}
use Rattle.{std.specs.List.AllZip, poll_engine.specs.{Tasks.IsSpawned, declared.tasks.Spawned.Spawned}}
use Rattle.poll_engine.proofs.tasks.join_all.Given as goal

abbrev pub invariant-loop-spawned : goal.invariant-loop-spawned
invariant-loop-spawned g l = (did : List (Spawned g.row.J.Denot)) × record {
  whole : did ++ vec_items l.spawned ≡ vec_items l.initial.spawned;
  each : AllZip (λ b o. (task : g.row.J.Denot) → IsSpawned g.J.Task.gives task b → g.J.Task.gives task o) did (vec_items l.tasks);
  count : vec_len l.tasks + vec_len l.spawned ≡ vec_len l.initial.spawned;
  room : vec_len l.initial.spawned ≤ vec_capacity l.tasks;
}

abbrev pub decreases-loop-spawned : goal.decreases-loop-spawned
decreases-loop-spawned g l = vec_len l.spawned
