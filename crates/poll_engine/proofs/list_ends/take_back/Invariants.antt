use Rattle.std.proofs.Common.{◌≡◌, ◌++◌, map}
use Rattle.{crossbeam_queue.specs.Passes.{view, IsPassOf}, poll_engine.specs.{PushOrder.poller, SharedLists.as_returned}}
use Rattle.poll_engine.proofs.list_ends.take_back.Given as goal

abbrev pub invariant-loop-end : goal.invariant-loop-end
invariant-loop-end g l = record {
  pass : IsPassOf l.queue l.pass;
  knows : view l.pass ≡ poller (view l.initial.pass).made (view l.initial.pass).pushed (view l.initial.pass).popped
      ((view l.initial.pass).returned ++ map as_returned l.yielded);
}
