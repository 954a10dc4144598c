use Rattle.std.proofs.Common.{◌≡◌, ◌+◌, ◌≤◌, ◌++◌, vec_len, vec_capacity, vec_items, length, List, map}
use Rattle.std.specs.{Vec.Iter.{into_iter_items, into_iter_len}, List.{AllByRecursion, AllZip}}
use Rattle.{poll_engine.specs.{Tasks.EachAt, Outcomes.{IsLeftBy, IsThreadWith, Outcome}}, poll_engine.proofs.EndFacts.HasGiven}
use Rattle.poll_engine.proofs.gathering.gather.Given as goal

abbrev pub invariant-loop-worker : goal.invariant-loop-worker
invariant-loop-worker g l = (did : List (Outcome g.row.R.Denot g.row.D.Denot g.row.G.Denot)) × record {
  whole : map (λ o. o.worker) did ++ into_iter_items l.all ≡ vec_items l.fn.tasks.workers;
  sides_whole : map (λ o. o.thread) did ++ into_iter_items l.sides ≡ vec_items l.fn.tasks.threads;
  left : map (λ o. o.loose) did ≡ vec_items l.loose;
  each : AllByRecursion (λ o. IsLeftBy o.worker o.poller o.thread o.loose.value) did;
  threads : AllZip IsThreadWith (into_iter_items l.all) (into_iter_items l.sides);
  seats : EachAt (HasGiven (length (vec_items l.fn.tasks.pollers)) (vec_items l.fn.tasks.pollers) did (into_iter_items l.all))
      (vec_items l.pollers);
  pollers : length (vec_items l.pollers) ≡ length (vec_items l.fn.tasks.pollers);
  as_many : l.count ≡ length (vec_items l.fn.tasks.pollers);
  some : 1 ≤ l.count;
  count : vec_len l.loose + into_iter_len l.all ≡ vec_len l.fn.tasks.workers;
  room : vec_len l.fn.tasks.workers ≤ vec_capacity l.loose;
}

abbrev pub decreases-loop-worker : goal.decreases-loop-worker
decreases-loop-worker g l = into_iter_len l.all
