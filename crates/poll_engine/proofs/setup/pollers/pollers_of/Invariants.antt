use Rattle.std.proofs.Common.{◌≡◌, ◌+◌, ◌≤◌, ◌++◌, [], All, length, vec_items, vec_len, List}
use Rattle.std.specs.{Vec.Iter.{into_iter_items, into_iter_len}, List.AllZip}
use Rattle.poll_engine.specs.{Limits.IsLawful, Tasks.EachAt, Wakers.Wakes, declared.setup.signals.Waker.Waker, Spreads.{IsNewEnd, IsPoller}}
use Rattle.poll_engine.proofs.setup.pollers.pollers_of.Given as goal

abbrev pub invariant-loop-wait : goal.invariant-loop-wait
invariant-loop-wait g l = (rung : List Waker) × record {
  wakers : rung ++ l.rest ≡ l.fn.wakers;
  waker_count : length rung ≡ length (vec_items l.pollers);
  rest_count : length l.rest ≡ into_iter_len l.waits;
  wakes : AllZip Wakes l.rest (into_iter_items l.waits);
  lawful : IsLawful l.context.limits;
  few : length l.fn.wakers ≤ 8;
  pollers : EachAt (λ k poller. IsPoller l.context l.fn.wakers l.count [] k poller) (vec_items l.pollers);
  own : AllZip (λ p ends. All (IsNewEnd p.served.list) (vec_items ends)) (vec_items l.pollers) (vec_items l.ends);
  enough : All (λ e. l.count + l.count ≤ vec_len e) (vec_items l.ends);
}

abbrev pub decreases-loop-wait : goal.decreases-loop-wait
decreases-loop-wait g l = into_iter_len l.waits
