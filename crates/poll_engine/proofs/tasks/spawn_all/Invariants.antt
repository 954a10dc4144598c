use Rattle.std.proofs.Common.{◌≡◌, ◌+◌, ◌≤◌, ◌++◌, List, vec_len, vec_capacity, vec_items}
use Rattle.{std.specs.List.AllZip, poll_engine.specs.Tasks.IsSpawned}
use Rattle.poll_engine.proofs.tasks.spawn_all.Given as goal

abbrev pub invariant-loop-spawned : goal.invariant-loop-spawned
invariant-loop-spawned g l = (did : List g.row.J.Denot) × record {
  whole : did ++ vec_items l.tasks ≡ vec_items l.initial.tasks;
  each : AllZip (IsSpawned g.J.Task.gives) did (vec_items l.spawned);
  count : vec_len l.spawned + vec_len l.tasks ≡ vec_len l.initial.tasks;
  room : vec_len l.initial.tasks ≤ vec_capacity l.spawned;
  left : vec_len l.initial.tasks ≤ vec_capacity l.tasks;
}

abbrev pub decreases-loop-spawned : goal.decreases-loop-spawned
decreases-loop-spawned g l = vec_len l.tasks
