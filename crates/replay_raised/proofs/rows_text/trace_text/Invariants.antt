use Rattle.std.proofs.Common.{◌≡◌, ◌-◌, ◌≤◌, ◌++◌, length, take, flat_map}
use Rattle.text_io.specs.Lines.{with_newline}
use Rattle.replay_raised.specs.TraceText.{row_line, titles}
use Rattle.replay_raised.proofs.rows_text.trace_text.Given as goal

abbrev pub invariant-loop-done : goal.invariant-loop-done
invariant-loop-done l =
    (l.done ≤ length l.rows) × (l.text.items ≡ titles l.version ++ flat_map (λ row. with_newline (row_line row)) (take l.done l.rows))

abbrev pub decreases-loop-done : goal.decreases-loop-done
decreases-loop-done l = length l.rows - l.done
