use Rattle.std.proofs.Common.{refl, ap, ◌∙◌}
use Rattle.napi_word.{specs.{declared.history.Holds.TheVariants.{Within, Out}, Knowledge.view_number}, proofs.Knowing.never_held}
use Rattle.{napi_calls.specs.Knows.Free, napi_model.specs.declared.state.Flags.Flags}
use Rattle.napi_calls.proofs.Standing.{looked, looked_flags, made, self_granted, moved, is_polling, busy_looked, busy_moved, outside}
use Rattle.napi_calls.proofs.{Packets.{owns, held_step, held_still, gives_back, got_back}, Making.{nothing, step, still, lost}}
use Rattle.napi_model.specs.declared.state.Place.TheVariants as place
use Rattle.napi_model.specs.declared.event.Call.TheVariants as call
use Rattle.napi_calls.proofs.types.Polling.try_complete_between.Goals as goal

pub complete_swap-requires-clause-owner : goal.complete_swap-requires-clause-owner
complete_swap-requires-clause-owner g c =
    let first = looked c.look-seen.new.pass c.args.self.stands c.look-seen.ensures.step.event in
    let busy = busy_looked c.look-seen.new.pass c.args.self.stands c.args.self.busy c.look-seen.ensures.step.event in (
      is_polling (moved c.slot_in.new.pass first c.slot_in.ensures.keeps.view),
      busy_moved c.slot_in.new.pass first busy c.slot_in.ensures.keeps.view,
    )

pub unreachable-requires : goal.unreachable-requires
unreachable-requires g c = never_held _ (rw c.in-Ok-Held.field-0-is at c.in-Ok-Held.ensures).reply

pub invariant_of-result : goal.invariant_of-result
invariant_of-result g c =
    let st =
    moved c.slot_in.new.pass (looked c.look-seen.new.pass c.args.self.stands c.look-seen.ensures.step.event) c.slot_in.ensures.keeps.view in
    record {
      stands = made Free c.complete_swap.new.pass st (rw c.in-Ok-Released.field-0-is at c.in-Ok-Released.ensures).step.event (λ s. refl);
    }

pub invariant_of-result-in-Ok-Again : goal.invariant_of-result-in-Ok-Again
invariant_of-result-in-Ok-Again g c =
    let st =
    moved c.slot_in.new.pass (looked c.look-seen.new.pass c.args.self.stands c.look-seen.ensures.step.event) c.slot_in.ensures.keeps.view in
    record {
      stands =
          made place.Granted c.complete_swap.new.pass st (rw c.in-Ok-Again.field-0-is at c.in-Ok-Again.ensures).step.event
          (λ s. self_granted _);
    }

pub invariant_of-result-in-Err : goal.invariant_of-result-in-Err
invariant_of-result-in-Err g c =
    let first = looked c.look-seen.new.pass c.args.self.stands c.look-seen.ensures.step.event in
    let st = moved c.slot_in.new.pass first c.slot_in.ensures.keeps.view in
    let busy =
    busy_moved c.slot_in.new.pass first
    (busy_looked c.look-seen.new.pass c.args.self.stands c.args.self.busy c.look-seen.ensures.step.event) c.slot_in.ensures.keeps.view in
    let last = looked c.complete_swap.new.pass st c.in-Err.ensures.step.event in
    let e = c.slot_out-ctx.ensures in record {
      stands = moved c.slot_out-ctx.new.pass last e.keeps.view;
      busy = busy_moved c.slot_out-ctx.new.pass last
          (busy_looked c.complete_swap.new.pass st busy c.in-Err.ensures.step.event) e.keeps.view;
      has = outside c.complete_swap.new.pass c.slot_out-ctx.new.pass _ e.holds e.keeps.view e.ring e.received;
    }

pub returns-in-Ok-Released-clause-events : goal.returns-in-Ok-Released-clause-events
returns-in-Ok-Released-clause-events g c =
    let one = step (nothing c.args.self.stands) c.look-seen.ensures.step in
    let in_slot = still one c.slot_in.ensures.keeps in (
      _,
      step in_slot (rw c.in-Ok-Released.field-0-is at c.in-Ok-Released.ensures).step,
    )

pub returns-in-Ok-Again-clause-events : goal.returns-in-Ok-Again-clause-events
returns-in-Ok-Again-clause-events g c =
    let one = step (nothing c.args.self.stands) c.look-seen.ensures.step in
    let in_slot = still one c.slot_in.ensures.keeps in (
      _,
      step in_slot (rw c.in-Ok-Again.field-0-is at c.in-Ok-Again.ensures).step,
    )

pub returns-in-Err-clause-events : goal.returns-in-Err-clause-events
returns-in-Err-clause-events g c =
    let one = step (nothing c.args.self.stands) c.look-seen.ensures.step in
    let in_slot = still one c.slot_in.ensures.keeps in
    let e = c.slot_out-ctx.ensures in
    let busy = busy_looked c.look-seen.new.pass c.args.self.stands c.args.self.busy c.look-seen.ensures.step.event in
    let on =
    ap (λ (f : Flags). f.in_busy_poll) (looked_flags c.args.self.pass c.look-seen.new.pass c.look-seen.ensures.step.event) ∙ busy in
    lost call.Complete _ _ on c.in-Err.ensures.other
    (still (step in_slot c.in-Err.ensures.step) e.keeps)

pub returns-in-Ok-Released-clause-packets : goal.returns-in-Ok-Released-clause-packets
returns-in-Ok-Released-clause-packets g c =
    let p = c.args.self.pass in
    let q = c.slot_in.new.pass in
    let s = c.slot_in.ensures in
    let one = c.look-seen.ensures.step in
    let holds = held_still q (held_step p c.look-seen.new.pass (owns p Out c.args.self.has.holds refl) one.packets) s.keeps.view in
    gives_back p q c.complete_swap.new.pass c.args.self.ctx holds (ap view_number s.keeps.view ∙ one.event.number) s.stored
    (owns q Within s.holds refl) (rw c.in-Ok-Released.field-0-is at c.in-Ok-Released.ensures).step.packets

pub returns-in-Ok-Again-clause-packets : goal.returns-in-Ok-Again-clause-packets
returns-in-Ok-Again-clause-packets g c =
    let p = c.args.self.pass in
    let q = c.slot_in.new.pass in
    let s = c.slot_in.ensures in
    let one = c.look-seen.ensures.step in
    let holds = held_still q (held_step p c.look-seen.new.pass (owns p Out c.args.self.has.holds refl) one.packets) s.keeps.view in
    gives_back p q c.complete_swap.new.pass c.args.self.ctx holds (ap view_number s.keeps.view ∙ one.event.number) s.stored
    (owns q Within s.holds refl) (rw c.in-Ok-Again.field-0-is at c.in-Ok-Again.ensures).step.packets

pub returns-in-Err-clause-packets : goal.returns-in-Err-clause-packets
returns-in-Err-clause-packets g c =
    let p = c.args.self.pass in
    let q = c.slot_in.new.pass in
    let s = c.slot_in.ensures in
    let one = c.look-seen.ensures.step in
    let holds = held_still q (held_step p c.look-seen.new.pass (owns p Out c.args.self.has.holds refl) one.packets) s.keeps.view in
    let e = c.slot_out-ctx.ensures in
    got_back p q c.complete_swap.new.pass c.slot_out-ctx.new.pass _ c.slot_out-ctx.result holds s.stored
    (owns q Within s.holds refl) c.in-Err.ensures.step.packets e.keeps.view e.ctx
