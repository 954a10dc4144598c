use Rattle.std.{proofs.Common.{◌≡◌, take}, specs.Prelude.filter}
use Rattle.replay.specs.Script.{is_act_of}
use Rattle.replay.proofs.script.script_of.Given as goal

abbrev pub invariant-loop-row : goal.invariant-loop-row
invariant-loop-row l = l.script.items ≡ filter (is_act_of l.device) (take l.row-index l.rows)
