use Rattle.std.proofs.Common.{◌≡◌, ◌-◌, ◌^◌, ◌*◌, ◌≤◌}
use Rattle.poll_runs.{specs.Polling.{busy_poll_plan, rounds_on}, proofs.PlanFacts.Leads}
use Rattle.poll_runs.proofs.busy_polling.poll_busy_of.Given as goal

abbrev pub invariant-loop : goal.invariant-loop
invariant-loop g l = let i = g.I.Instance in let b = g.I.BusyInstance in record {
  leads : Leads i.tries i.did (busy_poll_plan b.bytes_in (i.thread l.fn.instance) l.weight l.rounds) l.fn.instance
      (rounds_on b.bytes_in (i.thread l.fn.instance) l.weight (l.rounds - l.counter) l.report) l.instance;
  thread : i.thread l.instance ≡ i.thread l.fn.instance;
  busy : b.in_busy l.instance;
  bounds : (l.report.polls ≤ l.counter) × (l.report.held ≤ l.counter) × (l.report.work ≤ 64 * l.counter)
      × (l.report.bytes ≤ 2 ^ 38 * l.counter);
}
