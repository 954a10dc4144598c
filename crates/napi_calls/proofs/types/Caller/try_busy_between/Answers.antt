use Rattle.std.proofs.Common.{refl, sym, ◌∙◌, true≢false}
use Rattle.napi_calls.proofs.Standing.{looked, made, self_polling, moved, busy_made}
use Rattle.napi_calls.proofs.{Standing.{busy_moved, outside}, Packets.{quiet_step, quiet_more, taken, fresh_behind}, Making.{nothing, step}}
use Rattle.{napi_calls.proofs.Making.{still, lost}, napi_model.specs.declared.{state.Place.Place, event.Call.Call}}
use Rattle.napi_calls.proofs.types.Caller.try_busy_between.Goals as goal

pub invariant_of-result : goal.invariant_of-result
invariant_of-result g c = record { stands = looked c.look-seen.new.pass c.args.self.stands c.look-seen.ensures.step.event }

pub returns-then-not-may_busy_take-clause-events : goal.returns-then-not-may_busy_take-clause-events
returns-then-not-may_busy_take-clause-events g c = (
  c.look-seen.result,
  λ may. true≢false (sym (c.may_busy_take.ensures.1 may) ∙ c.if-not-may_busy_take.true),
  step (nothing c.args.self.stands) c.look-seen.ensures.step,
)

pub invariant_of-result-in-Ok : goal.invariant_of-result-in-Ok
invariant_of-result-in-Ok g c =
    let st = looked c.look-seen.new.pass c.args.self.stands c.look-seen.ensures.step.event in
    let taken = c.in-Ok.ensures.step.event in
    let polls = made Place.Polling c.busy_swap.new.pass st taken (λ s. self_polling _) in
    let e = c.slot_out-ctx.ensures in record {
      stands = moved c.slot_out-ctx.new.pass polls e.keeps.view;
      busy = busy_moved c.slot_out-ctx.new.pass polls (busy_made c.busy_swap.new.pass st taken (λ n s. refl)) e.keeps.view;
      has = outside c.busy_swap.new.pass c.slot_out-ctx.new.pass _ e.holds e.keeps.view e.ring e.received;
    }

pub invariant_of-result-in-Err : goal.invariant_of-result-in-Err
invariant_of-result-in-Err g c =
    let st = looked c.look-seen.new.pass c.args.self.stands c.look-seen.ensures.step.event in
    record { stands = looked c.busy_swap.new.pass st c.in-Err.ensures.step.event }

pub returns-in-Ok-clause-events : goal.returns-in-Ok-clause-events
returns-in-Ok-clause-events g c =
    let e = c.slot_out-ctx.ensures in
    let one = step (nothing c.args.self.stands) c.look-seen.ensures.step in
    let two = step one c.in-Ok.ensures.step in
    (_, c.may_busy_take.ensures.0 c.if-not-may_busy_take.false, still two e.keeps)

pub returns-in-Err-clause-events : goal.returns-in-Err-clause-events
returns-in-Err-clause-events g c =
    let one = step (nothing c.args.self.stands) c.look-seen.ensures.step in
    let two = step one c.in-Err.ensures.step in
    lost Call.BusyTake _ _ (c.may_busy_take.ensures.0 c.if-not-may_busy_take.false) c.in-Err.ensures.other two

pub returns-then-not-may_busy_take-clause-packets : goal.returns-then-not-may_busy_take-clause-packets
returns-then-not-may_busy_take-clause-packets g c =
    quiet_step c.args.self.pass c.look-seen.new.pass c.look-seen.ensures.step.event c.look-seen.ensures.step.packets

pub returns-in-Ok-clause-packets : goal.returns-in-Ok-clause-packets
returns-in-Ok-clause-packets g c =
    let e = c.slot_out-ctx.ensures in
    let looks = quiet_step c.args.self.pass c.look-seen.new.pass c.look-seen.ensures.step.event c.look-seen.ensures.step.packets in
    fresh_behind c.args.self.pass c.look-seen.new.pass _ _ looks
    (taken c.look-seen.new.pass c.busy_swap.new.pass c.slot_out-ctx.new.pass c.slot_out-ctx.result c.in-Ok.ensures.step.event
    c.in-Ok.ensures.step.packets e.received e.keeps.view e.unmarked)

pub returns-in-Err-clause-packets : goal.returns-in-Err-clause-packets
returns-in-Err-clause-packets g c =
    quiet_more c.args.self.pass c.look-seen.new.pass c.busy_swap.new.pass
    (quiet_step c.args.self.pass c.look-seen.new.pass c.look-seen.ensures.step.event c.look-seen.ensures.step.packets)
    (quiet_step c.look-seen.new.pass c.busy_swap.new.pass c.in-Err.ensures.step.event c.in-Err.ensures.step.packets)
