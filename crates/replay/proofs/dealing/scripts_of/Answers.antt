use Rattle.{std.proofs.{Common.{take, arith}, lemmas.List.take_more}, replay.proofs.ScriptFacts.none}
use Rattle.replay.proofs.dealing.scripts_of.Goals as goal

pub loop-row-preserved : goal.loop-row-preserved
loop-row-preserved c = record {
  scripts =
      rw (take_more c.args.rows.now c.loop-row.row-index none (omega arith))
      (c.in_ok-deal.ensures.scripts (take c.loop-row.row-index c.args.rows.now) c.loop-row.invariant.scripts);
  count = c.deal.ensures.count;
}
