use Rattle.std.proofs.Common.{◌≡◌, ◌++◌, take, string_bytes, flat_map}
use Rattle.{text_io.specs.Lines.with_newline, replay_rows.specs.Report.poll_line}
use Rattle.replay_rows.proofs.report.add_lines.Given as goal

abbrev pub invariant-loop-line : goal.invariant-loop-line
invariant-loop-line l =
    string_bytes l.text ≡ string_bytes l.initial.text ++ flat_map (λ line. with_newline (poll_line line)) (take l.line-index l.lines)
