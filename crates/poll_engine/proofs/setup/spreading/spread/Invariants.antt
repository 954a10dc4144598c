use Rattle.std.proofs.Common.{◌≡◌, ◌+◌, ◌≤◌, ◌++◌, vec_len, vec_capacity, vec_items, length, List, All, map}
use Rattle.std.specs.{Vec.Iter.{into_iter_items, into_iter_len}, List.{AllByRecursion, AllZip}}
use Rattle.napi_calls.specs.declared.kept.DropBomb.{DropBomb}
use Rattle.poll_engine.specs.{declared.setup.opening.Loose.Loose, declared.setup.opening.Placed.Placed, Opens.IsKeptSideOf}
use Rattle.poll_engine.specs.Spreads.{AreEndsOf, ArePollers, IsJobAt, IsKeptJobOf, IsKeptSeatFor, IsKeptThreadFor, IsSeatAt, IsThreadAt}
use Rattle.poll_engine.specs.{Spreads.{IsWiredJob, IsWiredSide}, declared.shared.SharedList.SharedList}
use Rattle.poll_engine.specs.declared.handle.PollHandle.{PollHandle}
use Rattle.poll_engine.proofs.setup.spreading.spread.Given as goal

abbrev pub invariant-loop-rest : goal.invariant-loop-rest
invariant-loop-rest g l = (did : List (DropBomb g.row.R.Denot (Loose g.row.D.Denot))) × (here : List (DropBomb g.row.R.Denot Placed))
    × (sat : List (DropBomb g.row.R.Denot PollHandle)) × record {
      whole : did ++ into_iter_items l.rests ≡ vec_items l.fn.loose;
      all_places : here ++ l.places ≡ l.fn.placed;
      sides : AllZip IsKeptSideOf (into_iter_items l.rests) l.places;
      made : AllZip (IsKeptJobOf l.context) did (vec_items l.tasks.workers);
      job_places : AllZip IsJobAt here (vec_items l.tasks.workers);
      wired_jobs : (lists : List (SharedList g.row.R.Denot)) → AreEndsOf lists (vec_items l.fn.ends)
          → AllByRecursion (IsWiredJob lists l.fn.wakers) (vec_items l.tasks.workers);
      wired_threads : (lists : List (SharedList g.row.R.Denot)) → AreEndsOf lists (vec_items l.fn.ends)
          → AllByRecursion (IsWiredSide lists l.fn.wakers) (vec_items l.tasks.threads);
      are_ends : (lists : List (SharedList g.row.R.Denot)) → AreEndsOf lists (vec_items l.fn.ends) → AreEndsOf lists
          (vec_items l.lists);
      seat_places : AllZip IsSeatAt here sat;
      sitting : AllZip IsKeptSeatFor did sat;
      thread_places : AllZip IsThreadAt here (vec_items l.tasks.threads);
      threads : AllZip (IsKeptThreadFor l.context) did (vec_items l.tasks.threads);
      pollers : ArePollers l.context l.fn.wakers (vec_len l.fn.loose) sat (vec_items l.tasks.pollers);
      poller_lists : map (λ p. p.served.list) (vec_items l.tasks.pollers) ≡ map (λ p. p.served.list) (vec_items l.fn.tasks.pollers);
      list_count : length (vec_items l.lists) ≡ length l.fn.wakers;
      ends : All (λ e. into_iter_len l.rests + into_iter_len l.rests ≤ vec_len e) (vec_items l.lists);
      count : vec_len l.tasks.workers + into_iter_len l.rests ≡ vec_len l.fn.loose;
      seat_count : length sat ≡ vec_len l.tasks.workers;
      side_count : vec_len l.tasks.threads ≡ vec_len l.tasks.workers;
      room : vec_len l.fn.loose ≤ vec_capacity l.tasks.workers;
      side_room : vec_len l.fn.loose ≤ vec_capacity l.tasks.threads;
      rest : (l.tasks.polling ≡ l.fn.tasks.polling) × (l.tasks.working ≡ l.fn.tasks.working) × (l.tasks.siding ≡ l.fn.tasks.siding);
    }

abbrev pub decreases-loop-rest : goal.decreases-loop-rest
decreases-loop-rest g l = into_iter_len l.rests
