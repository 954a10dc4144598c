use Rattle.std.{proofs.Common.{◌≡◌, None, take}, specs.List.find}
use Rattle.replay.specs.Script.{makes_threaded}
use Rattle.replay.proofs.script.has_thread.Given as goal

abbrev pub invariant-loop-row : goal.invariant-loop-row
invariant-loop-row l = find makes_threaded (take l.row-index l.rows) ≡ None
