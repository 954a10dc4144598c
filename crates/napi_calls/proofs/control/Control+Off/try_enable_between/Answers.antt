use Rattle.std.proofs.Common.{refl, sym, ap, ◌∙◌}
use Rattle.napi_word.specs.{declared.history.Holds.TheVariants.{Within, Out}, Knowledge.view_number}
use Rattle.napi_model.specs.declared.{state.Flags.Flags, event.Call.Call}
use Rattle.napi_calls.proofs.Standing.{looked_flags, control_looked, control_enabled, controls_moved, is_control, outside, has_none}
use Rattle.napi_calls.proofs.{Packets.{owns, held_step, held_still, gives_back, got_back}, Making.{nothing, step, still, lost}}
use Rattle.napi_calls.proofs.control.Control+Off.try_enable_between.Goals as goal

pub enable_swap-requires-clause-owner : goal.enable_swap-requires-clause-owner
enable_swap-requires-clause-owner g c =
    let k =
    controls_moved c.slot_in.new.pass
    (control_looked c.look-seen.new.pass c.args.self.controls c.look-seen.ensures.step.event) c.slot_in.ensures.keeps.view in
    is_control k.stands

pub enable_swap-requires-clause-unmarked : goal.enable_swap-requires-clause-unmarked
enable_swap-requires-clause-unmarked g c =
    let k =
    controls_moved c.slot_in.new.pass
    (control_looked c.look-seen.new.pass c.args.self.controls c.look-seen.ensures.step.event) c.slot_in.ensures.keeps.view in
    k.flag

pub invariant_of-result : goal.invariant_of-result
invariant_of-result g c =
    let k =
    controls_moved c.slot_in.new.pass
    (control_looked c.look-seen.new.pass c.args.self.controls c.look-seen.ensures.step.event) c.slot_in.ensures.keeps.view in
    record {
      controls = control_enabled c.args.threaded c.enable_swap.new.pass k c.in-Ok.ensures.step.event;
      has = has_none c.enable_swap.new.pass c.in-Ok.ensures.step.holds;
      exact = refl;
    }

pub invariant_of-result-in-Err : goal.invariant_of-result-in-Err
invariant_of-result-in-Err g c =
    let k =
    controls_moved c.slot_in.new.pass
    (control_looked c.look-seen.new.pass c.args.self.controls c.look-seen.ensures.step.event) c.slot_in.ensures.keeps.view in
    let p = c.args.self.pass in
    let q = c.slot_in.new.pass in
    let s = c.slot_in.ensures in
    let one = c.look-seen.ensures.step in
    let holds = held_still q (held_step p c.look-seen.new.pass (owns p Out c.args.self.has.holds refl) one.packets) s.keeps.view in
    let e = c.slot_out-ctx.ensures in
    let kept =
    got_back p q c.enable_swap.new.pass c.slot_out-ctx.new.pass _ c.slot_out-ctx.result holds s.stored
    (owns q Within s.holds refl) c.in-Err.ensures.step.packets e.keeps.view e.ctx in record {
      controls = controls_moved c.slot_out-ctx.new.pass (control_looked c.enable_swap.new.pass k c.in-Err.ensures.step.event) e.keeps.view;
      has = outside c.enable_swap.new.pass c.slot_out-ctx.new.pass _ e.holds e.keeps.view e.ring e.received;
      exact = kept.1.received ∙ c.args.self.exact ∙ sym kept.0.received;
    }

pub returns-in-Ok-clause-events : goal.returns-in-Ok-clause-events
returns-in-Ok-clause-events g c =
    let one = step (nothing c.args.self.controls.stands) c.look-seen.ensures.step in
    let in_slot = still one c.slot_in.ensures.keeps in
    (_, step in_slot c.in-Ok.ensures.step)

pub returns-in-Err-clause-events : goal.returns-in-Err-clause-events
returns-in-Err-clause-events g c =
    let one = step (nothing c.args.self.controls.stands) c.look-seen.ensures.step in
    let in_slot = still one c.slot_in.ensures.keeps in
    let e = c.slot_out-ctx.ensures in
    let k = control_looked c.look-seen.new.pass c.args.self.controls c.look-seen.ensures.step.event in
    let on = ap (λ (f : Flags). f.disable) (looked_flags c.args.self.pass c.look-seen.new.pass c.look-seen.ensures.step.event) ∙ k.flag in
    lost (Call.Enable c.args.threaded) _ _ on c.in-Err.ensures.other
    (still (step in_slot c.in-Err.ensures.step) e.keeps)

pub returns-in-Ok-clause-packets : goal.returns-in-Ok-clause-packets
returns-in-Ok-clause-packets g c =
    let p = c.args.self.pass in
    let q = c.slot_in.new.pass in
    let s = c.slot_in.ensures in
    let one = c.look-seen.ensures.step in
    let holds = held_still q (held_step p c.look-seen.new.pass (owns p Out c.args.self.has.holds refl) one.packets) s.keeps.view in
    gives_back p q c.enable_swap.new.pass c.args.self.state.ctx holds (ap view_number s.keeps.view ∙ one.event.number) s.stored
    (owns q Within s.holds refl) c.in-Ok.ensures.step.packets

pub returns-in-Err-clause-packets : goal.returns-in-Err-clause-packets
returns-in-Err-clause-packets g c =
    let p = c.args.self.pass in
    let q = c.slot_in.new.pass in
    let s = c.slot_in.ensures in
    let one = c.look-seen.ensures.step in
    let holds = held_still q (held_step p c.look-seen.new.pass (owns p Out c.args.self.has.holds refl) one.packets) s.keeps.view in
    let e = c.slot_out-ctx.ensures in
    got_back p q c.enable_swap.new.pass c.slot_out-ctx.new.pass _ c.slot_out-ctx.result holds s.stored
    (owns q Within s.holds refl) c.in-Err.ensures.step.packets e.keeps.view e.ctx
