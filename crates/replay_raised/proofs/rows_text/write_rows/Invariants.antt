use Rattle.std.proofs.Common.{◌≡◌, ◌+◌, ◌*◌, ◌≤◌, ◌++◌, length, drop, flat_map}
use Rattle.text_io.specs.Lines.{with_newline}
use Rattle.replay_raised.specs.TraceText.{row_line}
use Rattle.replay_raised.proofs.rows_text.write_rows.Given as goal

abbrev pub invariant-loop-left : goal.invariant-loop-left
invariant-loop-left l =
    (l.left ≤ length l.rows) × (52 * l.left ≤ l.at) × (l.at ≤ l.end) × (l.end + 52 * l.left ≤ l.at + 52 * length l.rows)
    × (length l.buf ≡ length l.fn.buf)
    × (drop l.at l.buf ≡ flat_map (λ row. with_newline (row_line row)) (drop l.left l.rows) ++ drop l.end l.fn.buf)

abbrev pub decreases-loop-left : goal.decreases-loop-left
decreases-loop-left l = l.left
