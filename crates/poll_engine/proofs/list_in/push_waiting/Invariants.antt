use Rattle.std.proofs.Common.{◌≡◌}
use Rattle.crossbeam_queue.specs.Passes.{view, IsPassOf}
use Rattle.poll_engine.proofs.list_in.push_waiting.Given as goal

abbrev pub invariant-loop : goal.invariant-loop
invariant-loop g l = IsPassOf l.queue l.pass × (view l.pass ≡ view l.initial.pass) × (l.pass.table_id ≡ l.initial.pass.table_id)
