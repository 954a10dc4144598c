use Rattle.std.proofs.Common.{◌≡◌, ◌++◌, string_bytes}
use Rattle.{napi_series.specs.Series.run_gave, replay_rows.specs.Report.lines_below}
use Rattle.napi_series.proofs.line.add_all_gave.Given as goal

abbrev pub invariant-loop-device : goal.invariant-loop-device
invariant-loop-device l = string_bytes l.text ≡ string_bytes l.initial.text ++ lines_below (run_gave l.polls) l.device
