use Rattle.std.proofs.Common.{◌∙◌, ap, sym}
use Rattle.{std.specs.Prelude.is_some, replay.specs.Script.makes_threaded, replay.proofs.{Rows.{find-here, find-more}, ScriptFacts.none}}
use Rattle.replay.proofs.script.has_thread.Goals as goal

pub returns-then-makes_threaded : goal.returns-then-makes_threaded
returns-then-makes_threaded c =
    sym (ap (λ o. is_some o)
    (find-here makes_threaded c.args.rows.now c.loop-row.row-index none c.loop-row-test.true c.loop-row.invariant
    (sym c.makes_threaded.ensures ∙ c.if-makes_threaded.true)))

pub loop-row-preserved : goal.loop-row-preserved
loop-row-preserved c =
    find-more makes_threaded c.args.rows.now c.loop-row.row-index none c.loop-row-test.true c.loop-row.invariant
    (sym c.makes_threaded.ensures ∙ c.if-makes_threaded.false)
