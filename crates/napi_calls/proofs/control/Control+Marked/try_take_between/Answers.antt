use Rattle.std.proofs.Common.{refl, sym, ◌∙◌}
use Rattle.napi_calls.proofs.Standing.{control_looked, control_busy, control_taken, control_unmarked}
use Rattle.napi_calls.proofs.{Standing.{controls_moved, is_control, outside, stays_has, has_none, fresh}, Packets.{owns, quiet_step}}
use Rattle.napi_calls.proofs.{Packets.{quiet_more, held_step, taken, fresh_behind, fresh_held}, Making.{nothing, step, still, lost}}
use Rattle.napi_word.specs.declared.history.Holds.TheVariants.{Out}
use Rattle.napi_model.specs.declared.event.Call.TheVariants as call
use Rattle.napi_calls.proofs.control.Control+Marked.try_take_between.Goals as goal

pub invariant_of-result : goal.invariant_of-result
invariant_of-result g c = record {
  controls = control_busy c.take_load.new.pass c.args.self.controls c.in_default.ensures.step.event;
  has = has_none c.take_load.new.pass (c.take_load.ensures.step.holds ∙ c.args.self.has.holds);
  exact = refl;
}

pub returns-in_default-clause-events : goal.returns-in_default-clause-events
returns-in_default-clause-events g c =
    step (nothing c.args.self.controls.stands) c.in_default.ensures.step

pub unmark-requires-clause-owner : goal.unmark-requires-clause-owner
unmark-requires-clause-owner g c =
    let k =
    controls_moved c.slot_out-ctx.new.pass
    (control_taken c.take_swap.new.pass (control_looked c.take_load.new.pass c.args.self.controls c.in-Some.ensures.step.event)
    c.in-Ok.ensures.step.event) c.slot_out-ctx.ensures.keeps.view in
    is_control k.stands

pub unmark-requires-clause-marked : goal.unmark-requires-clause-marked
unmark-requires-clause-marked g c =
    let k =
    controls_moved c.slot_out-ctx.new.pass
    (control_taken c.take_swap.new.pass (control_looked c.take_load.new.pass c.args.self.controls c.in-Some.ensures.step.event)
    c.in-Ok.ensures.step.event) c.slot_out-ctx.ensures.keeps.view in
    k.flag

pub returns-in-Ok-clause-packets : goal.returns-in-Ok-clause-packets
returns-in-Ok-clause-packets g c =
    let e = c.slot_out-ctx.ensures in
    let u = c.unmark.ensures.step in
    let q = c.slot_out-ctx.new.pass in
    let looks = quiet_step c.args.self.pass c.take_load.new.pass c.in-Some.ensures.step.event c.in-Some.ensures.step.packets in
    let got =
    taken c.take_load.new.pass c.take_swap.new.pass q c.slot_out-ctx.result c.in-Ok.ensures.step.event c.in-Ok.ensures.step.packets
    e.received e.keeps.view e.unmarked in
    fresh_held _ _ _ _ (fresh_behind c.args.self.pass c.take_load.new.pass _ _ looks got)
    (held_step q c.unmark.new.pass (owns q Out e.holds refl) u.packets) u.event.number

pub invariant_of-result-in-Ok : goal.invariant_of-result-in-Ok
invariant_of-result-in-Ok g c =
    let k =
    controls_moved c.slot_out-ctx.new.pass
    (control_taken c.take_swap.new.pass (control_looked c.take_load.new.pass c.args.self.controls c.in-Some.ensures.step.event)
    c.in-Ok.ensures.step.event) c.slot_out-ctx.ensures.keeps.view in
    let e = c.slot_out-ctx.ensures in
    let u = c.unmark.ensures in record {
      controls = control_unmarked c.unmark.new.pass k u.step.event;
      has = stays_has c.slot_out-ctx.new.pass c.unmark.new.pass _
          (outside c.take_swap.new.pass c.slot_out-ctx.new.pass _ e.holds e.keeps.view e.ring e.received) u.step.holds u.step.event.ring
          u.step.packets;
      exact =
          fresh c.take_load.new.pass c.take_swap.new.pass c.slot_out-ctx.new.pass c.slot_out-ctx.result c.in-Ok.ensures.step.packets
          e.received e.keeps.view ∙ sym
          (held_step c.slot_out-ctx.new.pass c.unmark.new.pass (owns c.slot_out-ctx.new.pass Out e.holds refl) u.step.packets).received;
    }

pub invariant_of-result-in-Err : goal.invariant_of-result-in-Err
invariant_of-result-in-Err g c = record {
  controls =
      control_looked c.take_swap.new.pass
      (control_looked c.take_load.new.pass c.args.self.controls c.in-Some.ensures.step.event) c.in-Err.ensures.step.event;
  has = has_none c.take_swap.new.pass (c.in-Err.ensures.step.holds ∙ c.take_load.ensures.step.holds ∙ c.args.self.has.holds);
  exact = refl;
}

pub returns-in-Ok-clause-events : goal.returns-in-Ok-clause-events
returns-in-Ok-clause-events g c =
    let e = c.slot_out-ctx.ensures in
    let one = step (nothing c.args.self.controls.stands) c.in-Some.ensures.step in
    let two = step one c.in-Ok.ensures.step in (
      _,
      step (still two e.keeps) c.unmark.ensures.step,
    )

pub returns-in-Err-clause-events : goal.returns-in-Err-clause-events
returns-in-Err-clause-events g c =
    let one = step (nothing c.args.self.controls.stands) c.in-Some.ensures.step in
    lost call.TakeDisable _ _ c.in-Some.ensures.idle c.in-Err.ensures.other
    (step one c.in-Err.ensures.step)

pub returns-in_default-clause-packets : goal.returns-in_default-clause-packets
returns-in_default-clause-packets g c =
    quiet_step c.args.self.pass c.take_load.new.pass c.in_default.ensures.step.event c.in_default.ensures.step.packets

pub returns-in-Err-clause-packets : goal.returns-in-Err-clause-packets
returns-in-Err-clause-packets g c =
    quiet_more c.args.self.pass c.take_load.new.pass c.take_swap.new.pass
    (quiet_step c.args.self.pass c.take_load.new.pass c.in-Some.ensures.step.event c.in-Some.ensures.step.packets)
    (quiet_step c.take_load.new.pass c.take_swap.new.pass c.in-Err.ensures.step.event c.in-Err.ensures.step.packets)
