use Rattle.std.proofs.Common.{◌≡◌, take, vec_len}
use Rattle.replay.specs.Dealing.{AreScripts, lists}
use Rattle.replay.proofs.dealing.scripts_of.Given as goal

abbrev pub invariant-loop-row : goal.invariant-loop-row
invariant-loop-row l = record {
  scripts : AreScripts (lists l.scripts) (take l.row-index l.rows);
  count : vec_len l.scripts ≡ 16;
}
