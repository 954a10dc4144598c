use Rattle.std.proofs.Common.{◌≡◌, ◌*◌, ◌≤◌, take}
use Rattle.replay_rows.specs.Report.{run_totals}
use Rattle.replay_rows.proofs.report.RunTotals.of.Given as goal

abbrev pub invariant-loop-line : goal.invariant-loop-line
invariant-loop-line l = record {
  sums : l.totals ≡ run_totals l.devices (take l.line-index l.lines);
  few : (l.totals.runs ≤ l.line-index) × (l.totals.squeezed ≤ l.line-index);
  most : (l.totals.polls ≤ l.line-index * 4294967295) × (l.totals.work ≤ l.line-index * 4294967295);
}
