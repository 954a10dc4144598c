use Rattle.std.proofs.Common.{◌≡◌, ◌≤◌, ◌*◌, take}
use Rattle.std.specs.Prelude.{sum_by}
use Rattle.napi_series.specs.Series.{polls_by, work_by}
use Rattle.napi_series.proofs.line.add_run_gave.Given as goal

abbrev pub invariant-loop-poll : goal.invariant-loop-poll
invariant-loop-poll l = record {
  count : l.count ≡ sum_by (polls_by l.device) (take l.poll-index l.polls);
  work : l.work ≡ sum_by (work_by l.device) (take l.poll-index l.polls);
  few : l.count ≤ l.poll-index;
  most : l.work ≤ l.poll-index * 4294967295;
}
