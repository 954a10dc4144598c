use Rattle.std.proofs.Common.{◌∙◌, sym, arith}
use Rattle.{replay.specs.Script.opens, replay.proofs.{Rows.{find-here, find-more}, ScriptFacts.none}}
use Rattle.replay.proofs.script.opening_of.Goals as goal

pub returns-then-opens : goal.returns-then-opens
returns-then-opens c =
    sym (find-here (opens c.args.device) c.args.rows.now c.loop-row.row-index none (omega arith) c.loop-row.invariant
    (sym c.opens.ensures ∙ c.if-opens.true))

pub loop-row-preserved : goal.loop-row-preserved
loop-row-preserved c =
    find-more (opens c.args.device) c.args.rows.now c.loop-row.row-index none (omega arith) c.loop-row.invariant
    (sym c.opens.ensures ∙ c.if-opens.false)
