use Rattle.std.{proofs.Common.{◌≡◌, None, take}, specs.List.find}
use Rattle.replay.specs.Script.{opens}
use Rattle.replay.proofs.script.opening_of.Given as goal

abbrev pub invariant-loop-row : goal.invariant-loop-row
invariant-loop-row l = find (opens l.device) (take l.row-index l.rows) ≡ None
