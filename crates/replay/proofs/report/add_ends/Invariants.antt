use Rattle.std.proofs.Common.{◌≡◌, ◌++◌, take, string_bytes, flat_map}
use Rattle.replay.specs.ThreadsStations.{end_lines}
use Rattle.replay.proofs.report.add_ends.Given as goal

abbrev pub invariant-loop-end : goal.invariant-loop-end
invariant-loop-end l = string_bytes l.text ≡ string_bytes l.initial.text ++ flat_map end_lines (take l.end-index l.ends)
