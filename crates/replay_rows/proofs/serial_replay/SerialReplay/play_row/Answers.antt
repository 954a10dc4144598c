use Rattle.std.proofs.{Common.{◌∙◌, inl, inr, refl, take, subst, sym, arith}, lemmas.Result.err_from_is_err_and}
use Rattle.device_bench.specs.DeviceBench.{ShowsTransmits}
use Rattle.device_places.specs.Places.{empty}
use Rattle.device_rows.specs.{declared.event.RowEvent.TheVariants.Opened, declared.row.Row.Row}
use Rattle.{device_rows.proofs.Accepted.accepted-at, replay_rows.specs.Transmits.after_transmits}
use Rattle.replay_rows.proofs.{PlayFacts.{after_transmits-more, played-early, played-more}, RunLogFacts.{list-next, polls-next}}
use Rattle.replay_rows.proofs.serial_replay.SerialReplay.play_row.Goals as goal

-- the row that is returned for an index out of range
abbrev none : Row
none = record { moment = 0; device = 0; event = Opened; value = 0 }

pub play_logged-requires-clause-device : goal.play_logged-requires-clause-device
play_logged-requires-clause-device c = (accepted-at _ c.args.rows.now c.args.index none (omega arith) c.requires.accepted).1.device

pub play_logged-requires-clause-value : goal.play_logged-requires-clause-value
play_logged-requires-clause-value c = (accepted-at _ c.args.rows.now c.args.index none (omega arith) c.requires.accepted).1.value

pub returns-clause-after : goal.returns-clause-after
returns-clause-after c =
    record {
      state =
          played-more c.args.settings.now c.args.rows.now c.args.index none _ _ c.requires.index c.requires.after.state
          (c.in_ok-play_logged.ensures.on_time refl) (c.in_ok-play_logged.ensures.state refl);
      transmits =
          subst (ShowsTransmits c.play_logged.new.self.bench)
          (sym (after_transmits-more c.args.rows.now empty c.args.index none c.requires.index))
          (c.in_ok-play_logged.ensures.transmits (after_transmits (take c.args.index c.args.rows.now) empty) c.requires.after.transmits);
      list =
          c.in_ok-play_logged.ensures.list
          ∙ sym (list-next c.args.settings.now c.args.rows.now c.args.index none _ c.requires.index c.requires.after.state);
      polls =
          c.in_ok-play_logged.ensures.polls refl (after_transmits (take c.args.index c.args.rows.now) empty) c.requires.after.transmits
          ∙ sym (polls-next c.args.settings.now c.args.rows.now c.args.index none _ c.requires.index c.requires.after.state);
    }

pub returns-in_err-play_logged-clause-fault : goal.returns-in_err-play_logged-clause-fault
returns-in_err-play_logged-clause-fault c =
    let p = err_from_is_err_and c.from_residual.result c.from_residual.ensures.1 in
    rw (p.1, p.2)
    (elim (c.in_err-play_logged.ensures.fault refl) [
      | inl memory ↦ inl memory
      | inr early ↦
          inr (rw early.1
          (played-early c.args.settings.now c.args.rows.now c.args.index none _ c.requires.index c.requires.after.state early.2))
    ])
