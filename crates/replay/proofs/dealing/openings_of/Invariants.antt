use Rattle.std.proofs.Common.{◌≡◌, take}
use Rattle.replay.specs.Script.{openings_of}
use Rattle.replay.proofs.dealing.openings_of.Given as goal

abbrev pub invariant-loop-row : goal.invariant-loop-row
invariant-loop-row l = l.openings.items ≡ openings_of (take l.row-index l.rows)
