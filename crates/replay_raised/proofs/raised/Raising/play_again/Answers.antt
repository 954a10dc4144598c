use Rattle.std.proofs.{Common.{◌∙◌, inl, inr, sym, arith}, lemmas.Result.err_from_is_err_and}
use Rattle.replay_raised.proofs.RaisedFacts.{again-empty, again-fault, again-next, again-none}
use Rattle.replay_raised.proofs.raised.Raising.play_again.Goals as goal

pub returns-then-has_emptied-clause-raised : goal.returns-then-has_emptied-clause-raised
returns-then-has_emptied-clause-raised c =
    sym c.loop-left.invariant
    ∙ again-empty c.args.settings.now c.loop-left.left c.args.row.now _ (sym c.has_emptied.ensures ∙ c.if-has_emptied.true)

pub returns-in_err-play-clause-fault : goal.returns-in_err-play-clause-fault
returns-in_err-play-clause-fault c =
    let p = err_from_is_err_and c.from_residual.result c.from_residual.ensures.1 in
    rw (p.1, p.2)
    (elim c.in_err-play.ensures.fault [
      | inl memory ↦ inl memory
      | inr one ↦
          inr (sym c.loop-left.invariant
          ∙ again-fault c.args.settings.now c.loop-left.left c.args.row.now _ _ (omega arith)
          (sym c.has_emptied.ensures ∙ c.if-has_emptied.false) one)
    ])

pub loop-left-preserved : goal.loop-left-preserved
loop-left-preserved c =
    sym (again-next c.args.settings.now c.loop-left.left c.args.row.now _ _ (omega arith)
    (sym c.has_emptied.ensures ∙ c.if-has_emptied.false) c.in_ok-play.ensures.raised)
    ∙ c.loop-left.invariant

pub returns-clause-raised : goal.returns-clause-raised
returns-clause-raised c =
    sym c.loop-left.invariant ∙ again-none c.args.settings.now c.loop-left.left c.args.row.now _ (omega arith)
