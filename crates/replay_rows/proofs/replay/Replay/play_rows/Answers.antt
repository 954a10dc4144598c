use Rattle.std.proofs.{Common.{◌≡◌, true, ◌+◌, inl, inr, ◌<◌, length, get_or, take, ap, subst, sym, arith}}
use Rattle.std.proofs.{lemmas.Result.err_from_is_err_and}
use Rattle.device_bench.specs.DeviceBench.{ShowsTransmits, devices_of}
use Rattle.device_rows.{specs.declared.{event.RowEvent.TheVariants.Opened, row.Row.Row}, proofs.Accepted.accepted-at}
use Rattle.replay_rows.specs.{Played.replay_state, Replay.{after_row, all_tried}, ReplayState.ReplayState}
use Rattle.replay_rows.{specs.Transmits.after_transmits, proofs.PlayFacts.{after_transmits-more, played-early, played-more, report-early}}
use Rattle.replay_rows.proofs.replay.Replay.play_rows.Goals as goal

-- the row that is returned for an index out of range
abbrev none : Row
none = record { moment = 0; device = 0; event = Opened; value = 0 }

pub play_event-requires-clause-device : goal.play_event-requires-clause-device
play_event-requires-clause-device g c = (accepted-at _ c.args.rows.now c.loop-i.i none (omega arith) c.requires.accepted).1.device

pub play_event-requires-clause-value : goal.play_event-requires-clause-value
play_event-requires-clause-value g c = (accepted-at _ c.args.rows.now c.loop-i.i none (omega arith) c.requires.accepted).1.value

pub loop-i-preserved : goal.loop-i-preserved
loop-i-preserved g c =
    let below : c.loop-i.i < length c.args.rows.now = omega arith in
    let row : Row = get_or c.args.rows.now c.loop-i.i none in
    let new : ReplayState = record (replay_state c.play_event.new.self) {
      devices = devices_of c.settle.new.self;
    } in
    let is : g.S.ReceiveSide.exact ≡ true → new ≡ after_row c.args.settings.now (c.loop-i.i + 1) row (replay_state c.loop-i.self) =
    λ x. rw (c.settle.ensures.devices x) (ap all_tried (c.in_ok-play_event.ensures.state x)) in
    record {
      played =
          λ x. played-more c.args.settings.now c.args.rows.now c.loop-i.i none _ new below (c.loop-i.invariant.played x)
          (c.in_ok-play_event.ensures.on_time x) (is x);
      transmits =
          λ all shown. subst (ShowsTransmits c.settle.new.self)
          (sym (after_transmits-more c.args.rows.now all c.loop-i.i none below))
          (c.settle.ensures.transmits _
          (c.in_ok-play_event.ensures.transmits (after_transmits (take c.loop-i.i c.args.rows.now) all)
          (c.loop-i.invariant.transmits all shown)));
      lines = omega (arith, c.in_ok-play_event.ensures.lines, c.loop-i.invariant.lines);
    }

pub returns-in_err-play_event-clause-own : goal.returns-in_err-play_event-clause-own
returns-in_err-play_event-clause-own g c =
    let p = err_from_is_err_and c.from_residual.result c.from_residual.ensures.1 in
    rw (p.1, p.2) c.in_err-play_event.ensures.own

pub returns-in_err-play_event-clause-fault : goal.returns-in_err-play_event-clause-fault
returns-in_err-play_event-clause-fault g c = λ x.
    let p = err_from_is_err_and c.from_residual.result c.from_residual.ensures.1 in
    let below : c.loop-i.i < length c.args.rows.now = omega arith in
    rw (p.1, p.2)
    (elim (c.in_err-play_event.ensures.fault x) [
      | inl memory ↦ inl memory
      | inr early ↦
          inr (rw early.1
          (report-early c.args.settings.now c.args.rows.now _
          (played-early c.args.settings.now c.args.rows.now c.loop-i.i none _ below (c.loop-i.invariant.played x) early.2)))
    ])
