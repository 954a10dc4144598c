use Rattle.poll_engine.specs.{declared.list_in.ListIn.ListIn, SharedLists.{pushed_by, end_number}, PushOrder.poller}
use Rattle.std.specs.Arc.{arc_value}
use Rattle.std.proofs.Common.{◌≡◌, ◌+◌, [], length, All, ℕ, ◌<◌, slice_index_or}
use Rattle.crossbeam_queue.specs.Passes.{view, IsPassOf}
use Rattle.poll_engine.proofs.list_ends.with_ends.Given as goal

abbrev pub invariant-loop : goal.invariant-loop
invariant-loop g l = record {
  pass : IsPassOf (arc_value l.queue) l.pass;
  knows : view l.pass ≡ poller (l.counter + 1) [] [] [];
  numbers : (k : ℕ) (d : ListIn g.row.R.Denot) → k < length l.ins.items → end_number (slice_index_or l.ins.items k d) ≡ k + 1;
  size : length l.ins.items ≡ l.counter;
  each : All (λ i. (i.pass.table_id ≡ l.pass.table_id) × (pushed_by i ≡ [])) l.ins.items;
}
