use Rattle.std.proofs.Common.{◌≡◌, ◌++◌, take, string_bytes}
use Rattle.replay_rows.specs.Report.{spaced}
use Rattle.replay_rows.proofs.report.add_numbers.Given as goal

abbrev pub invariant-loop-number : goal.invariant-loop-number
invariant-loop-number l = string_bytes l.text ≡ string_bytes l.initial.text ++ spaced (take l.number-index l.numbers)
