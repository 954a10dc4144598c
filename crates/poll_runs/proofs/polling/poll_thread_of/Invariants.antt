use Rattle.std.proofs.Common.{◌≡◌, ◌-◌, ◌*◌, ◌≤◌, ◌<◌, true, List, MatchBool}
use Rattle.poll_runs.{specs.Polling.HasLast, proofs.PollingFacts.Going}
use Rattle.poll_runs.proofs.polling.poll_thread_of.Given as goal

abbrev pub invariant-loop-held : goal.invariant-loop-held
invariant-loop-held g l = let i = g.I.Instance in record {
  going : (given : List _) × HasLast i.has l.report.next l.fn.packets given l.packets
      × Going i.tries i.did (i.thread l.fn.instance) l.weight l.most l.fn.instance l.held l.instance given l.report;
  thread : i.thread l.instance ≡ i.thread l.fn.instance;
  room : l.held ≡ true → l.report.polls < l.most;
  bound : l.report.work ≤ 64 * l.report.polls;
  hands : MatchBool l.held (i.in_hand l.instance) (i.rests l.instance);
}

abbrev pub decreases-loop-held : goal.decreases-loop-held
decreases-loop-held g l = l.most - l.report.polls
