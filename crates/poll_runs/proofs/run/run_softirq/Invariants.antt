use Rattle.std.proofs.Common.{◌-◌, ◌+◌, ◌<◌, ◌≤◌, List, length}
use Rattle.poll_runs.specs.{Driven.Going, Polls.{At, Chain, Poll}}
use Rattle.poll_runs.proofs.run.run_softirq.Given as goal

abbrev pub invariant-loop-own : goal.invariant-loop-own
invariant-loop-own g l = record {
  room : g.L.PollList.has_room l.list (length l.own + length l.repoll);
  few : length l.own + length l.repoll ≤ 64;
  bounds : (l.polls ≤ l.window) × (l.work < l.budget + l.weight);
  goes : (polls : List Poll) × Chain (At g.B.Bench.polls l.weight) l.fn.bench polls l.bench
      × Going g.L.PollList.entries g.L.PollList.moves g.L.PollList.is_all l.budget l.window l.fn.list polls l.list l.own l.repoll l.polls
      l.work;
}

abbrev pub decreases-loop-own : goal.decreases-loop-own
decreases-loop-own g l = l.window - l.polls
