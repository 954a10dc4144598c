use Rattle.std.proofs.Common.{◌≡◌, ◌<◌, ℕ, None, get_or}
use Rattle.poll_engine.proofs.tasks.first_stop.Given as goal

abbrev pub invariant-loop-task : goal.invariant-loop-task
invariant-loop-task g l = (k : ℕ) (d : g.row.J.Denot) → k < l.task-index → g.J.Task.stopped (get_or l.tasks k d) ≡ None
