use Rattle.std.proofs.Common.{◌≡◌, drop}
use Rattle.replay_raised.specs.{Raised.{and_rows, no_rows}, Raising.raised_so_far}
use Rattle.replay_raised.proofs.raised.raise_rows.Given as goal

abbrev pub invariant-loop-i : goal.invariant-loop-i
invariant-loop-i l =
    and_rows l.settings l.restarts (drop l.i l.rows) (raised_so_far l.raising) ≡ and_rows l.settings l.restarts l.rows no_rows
