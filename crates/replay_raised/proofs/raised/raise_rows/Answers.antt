use Rattle.std.proofs.{Common.{◌∙◌, ◌+◌, ◌<◌, inl, inr, drop, get_or, length, sym, arith}, lemmas.Result.err_from_is_err_and}
use Rattle.{device_rows.specs.{declared.event.RowEvent.TheVariants.Opened, declared.row.Row.Row}, device_rows.proofs.Accepted.accepted-at}
use Rattle.replay_raised.specs.Raising.{raised_so_far}
use Rattle.replay_raised.proofs.RaisedFacts.{loop-end, loop-fault, loop-next, raised-is-trace, with-again, last-is, with-fault, with-none}
use Rattle.replay_raised.proofs.raised.raise_rows.Goals.{else-is_last_run, then-is_last_run+in_ok-play_again}
use Rattle.replay_raised.proofs.raised.raise_rows.Goals as goal

-- the row that is returned for an index out of range
abbrev none : Row
none = record { moment = 0; device = 0; event = Opened; value = 0 }

pub play-requires-clause-device : goal.play-requires-clause-device
play-requires-clause-device c = (accepted-at _ c.args.rows.now c.loop-i.i none (omega arith) c.requires.accepted).1.device

pub play-requires-clause-value : goal.play-requires-clause-value
play-requires-clause-value c = (accepted-at _ c.args.rows.now c.loop-i.i none (omega arith) c.requires.accepted).1.value

pub play_again-requires-clause-device : goal.play_again-requires-clause-device
play_again-requires-clause-device c = (accepted-at _ c.args.rows.now c.loop-i.i none (omega arith) c.requires.accepted).1.device

pub play_again-requires-clause-value : goal.play_again-requires-clause-value
play_again-requires-clause-value c = (accepted-at _ c.args.rows.now c.loop-i.i none (omega arith) c.requires.accepted).1.value

pub returns-in_err-play-clause-fault : goal.returns-in_err-play-clause-fault
returns-in_err-play-clause-fault c =
    let s = c.args.settings.now in
    let below : c.loop-i.i < length c.args.rows.now = omega arith in
    let p = err_from_is_err_and c.from_residual-in_err-play.result c.from_residual-in_err-play.ensures.1 in
    rw (p.1, p.2)
    (elim c.in_err-play.ensures.fault [
      | inl memory ↦ inl memory
      | inr one ↦
          inr (loop-fault s c.args.restarts c.args.rows.now c.loop-i.i none _ _ below c.loop-i.invariant
          (with-fault s c.args.restarts (get_or c.args.rows.now c.loop-i.i none) (drop (c.loop-i.i + 1) c.args.rows.now) _ _ one))
    ])

pub returns-in_err-play_again-clause-fault : goal.returns-in_err-play_again-clause-fault
returns-in_err-play_again-clause-fault c =
    let s = c.args.settings.now in
    let below : c.loop-i.i < length c.args.rows.now = omega arith in
    let p = err_from_is_err_and c.from_residual-in_err-play_again.result c.from_residual-in_err-play_again.ensures.1 in
    rw (p.1, p.2)
    (elim c.in_err-play_again.ensures.fault [
      | inl memory ↦ inl memory
      | inr again ↦
          inr (loop-fault s c.args.restarts c.args.rows.now c.loop-i.i none _ _ below c.loop-i.invariant
          (with-again s c.args.restarts (get_or c.args.rows.now c.loop-i.i none) (drop (c.loop-i.i + 1) c.args.rows.now) _ _ _
          c.in_ok-play.ensures.raised
          (last-is (get_or c.args.rows.now c.loop-i.i none) c.args.rows.now (c.loop-i.i + 1)
          _ (sym c.is_last_run.ensures ∙ c.if-is_last_run.true)) again))
    ])

pub loop-i-preserved : goal.loop-i-preserved
loop-i-preserved c =
    let s = c.args.settings.now in
    let below : c.loop-i.i < length c.args.rows.now = omega arith in
    elim c.if-is_last_run.branch [
      | then-is_last_run+in_ok-play_again w ↦
          rw w.raising-is
          (sym (loop-next s c.args.restarts c.args.rows.now c.loop-i.i none _ _ below
          (with-again s c.args.restarts (get_or c.args.rows.now c.loop-i.i none) (drop (c.loop-i.i + 1) c.args.rows.now) _ _ _
          c.in_ok-play.ensures.raised
          (last-is (get_or c.args.rows.now c.loop-i.i none) c.args.rows.now (c.loop-i.i + 1)
          _ (sym c.is_last_run.ensures ∙ w.if-is_last_run.true)) w.in_ok-play_again.ensures.raised))
          ∙ c.loop-i.invariant)
      | else-is_last_run w ↦
          rw w.raising-is
          (sym (loop-next s c.args.restarts c.args.rows.now c.loop-i.i none _ _ below
          (with-none s c.args.restarts (get_or c.args.rows.now c.loop-i.i none) (drop (c.loop-i.i + 1) c.args.rows.now) _ _
          c.in_ok-play.ensures.raised
          (last-is (get_or c.args.rows.now c.loop-i.i none) c.args.rows.now (c.loop-i.i + 1)
          _ (sym c.is_last_run.ensures ∙ w.if-is_last_run.false))))
          ∙ c.loop-i.invariant)
    ]

pub returns-clause-raised : goal.returns-clause-raised
returns-clause-raised c =
    loop-end c.args.settings.now c.args.restarts c.args.rows.now c.loop-i.i (raised_so_far c.loop-i.raising)
    (omega arith) c.loop-i.invariant

pub returns-clause-accepted : goal.returns-clause-accepted
returns-clause-accepted c =
    (raised-is-trace c.args.settings.now c.args.restarts c.args.rows.now _ c.requires.accepted
    (loop-end c.args.settings.now c.args.restarts c.args.rows.now c.loop-i.i (raised_so_far c.loop-i.raising) (omega arith)
    c.loop-i.invariant)).0

pub returns-clause-count : goal.returns-clause-count
returns-clause-count c =
    (raised-is-trace c.args.settings.now c.args.restarts c.args.rows.now _ c.requires.accepted
    (loop-end c.args.settings.now c.args.restarts c.args.rows.now c.loop-i.i (raised_so_far c.loop-i.raising) (omega arith)
    c.loop-i.invariant)).1
