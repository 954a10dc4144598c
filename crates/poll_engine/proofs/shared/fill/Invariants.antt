use Rattle.std.proofs.Common.{◌≡◌, ◌++◌, List, ℕ, length}
use Rattle.{crossbeam_queue.specs.Passes.{view, IsPassOf}, poll_engine.specs.PushOrder.PopsMore}
use Rattle.poll_engine.proofs.shared.fill.Given as goal

abbrev pub invariant-loop : goal.invariant-loop
invariant-loop g l = record {
  pass : IsPassOf l.queue l.pass × (l.pass.table_id ≡ l.initial.pass.table_id);
  popped : (fresh : List ℕ) × (l.into ≡ l.initial.into ++ fresh) × PopsMore (view l.initial.pass) fresh (view l.pass);
  size : length l.into ≡ l.counter;
  none_empty : l.pops ≡ l.initial.pops;
}
