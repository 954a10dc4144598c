use Rattle.std.proofs.Common.{◌≡◌, ◌≤◌, length, take}
use Rattle.c_handles.specs.Runs.{without}
use Rattle.c_handles.proofs.run.without.Given as goal

abbrev pub invariant-loop-other : goal.invariant-loop-other
invariant-loop-other l = record {
  others : l.others ≡ without l.id (take l.other-index l.ids);
  few : length l.others ≤ l.other-index;
}
