use Rattle.std.proofs.Common.{◌≡◌, Bool, true, false, refl}
use Rattle.napi_word.specs.Operations.{prep_of}
use Rattle.napi_calls.proofs.{Standing.{kept, looked, made, self_granted}, Packets.{quiet_step, quiet_more}, Making.{nothing, step, lost}}
use Rattle.napi_model.specs.declared.event.Prep.TheVariants as prep
use Rattle.napi_model.specs.declared.state.Place.TheVariants as place
use Rattle.napi_model.specs.declared.event.Call.TheVariants as call
use Rattle.napi_calls.proofs.types.Caller.try_schedule_between.Goals as goal

pub invariant_of-result : goal.invariant_of-result
invariant_of-result g c = record { stands = kept c.schedule_load.new.pass c.args.self.stands c.in_default.ensures.step.event (λ s. refl) }

pub returns-in_default-clause-events : goal.returns-in_default-clause-events
returns-in_default-clause-events g c =
    step (nothing c.args.self.stands) c.in_default.ensures.step

pub invariant_of-result-in-Ok-Granted : goal.invariant_of-result-in-Ok-Granted
invariant_of-result-in-Ok-Granted g c =
    let st = looked c.schedule_load.new.pass c.args.self.stands c.in-Some.ensures.step.event in
    record {
      stands =
          made place.Granted c.schedule_swap.new.pass st (rw c.in-Ok-Granted.field-0-is at c.in-Ok-Granted.ensures).step.event
          (λ s. self_granted _);
    }

pub invariant_of-result-in-Ok-Missed : goal.invariant_of-result-in-Ok-Missed
invariant_of-result-in-Ok-Missed g c =
    let st = looked c.schedule_load.new.pass c.args.self.stands c.in-Some.ensures.step.event in
    record { stands = kept c.schedule_swap.new.pass st (rw c.in-Ok-Missed.field-0-is at c.in-Ok-Missed.ensures).step.event (λ s. refl) }

never_disabled : (sched : Bool) → prep.Disabled ≡ prep_of sched → ⊥
never_disabled true e = cc
never_disabled false e = cc

pub unreachable-requires : goal.unreachable-requires
unreachable-requires g c = never_disabled _ (rw c.in-Ok-Disabled.field-0-is at c.in-Ok-Disabled.ensures).reply

pub invariant_of-result-in-Err : goal.invariant_of-result-in-Err
invariant_of-result-in-Err g c =
    let st = looked c.schedule_load.new.pass c.args.self.stands c.in-Some.ensures.step.event in
    record { stands = looked c.schedule_swap.new.pass st c.in-Err.ensures.step.event }

pub returns-in-Ok-Granted-clause-events : goal.returns-in-Ok-Granted-clause-events
returns-in-Ok-Granted-clause-events g c =
    let one = step (nothing c.args.self.stands) c.in-Some.ensures.step in (
      _,
      step one (rw c.in-Ok-Granted.field-0-is at c.in-Ok-Granted.ensures).step,
    )

pub returns-in-Ok-Missed-clause-events : goal.returns-in-Ok-Missed-clause-events
returns-in-Ok-Missed-clause-events g c =
    let one = step (nothing c.args.self.stands) c.in-Some.ensures.step in (
      _,
      step one (rw c.in-Ok-Missed.field-0-is at c.in-Ok-Missed.ensures).step,
    )

pub returns-in-Err-clause-events : goal.returns-in-Err-clause-events
returns-in-Err-clause-events g c =
    let one = step (nothing c.args.self.stands) c.in-Some.ensures.step in
    lost call.Schedule _ _ c.in-Some.ensures.enabled c.in-Err.ensures.other
    (step one c.in-Err.ensures.step)

pub returns-in_default-clause-packets : goal.returns-in_default-clause-packets
returns-in_default-clause-packets g c =
    quiet_step c.args.self.pass c.schedule_load.new.pass c.in_default.ensures.step.event c.in_default.ensures.step.packets

pub returns-in-Ok-Granted-clause-packets : goal.returns-in-Ok-Granted-clause-packets
returns-in-Ok-Granted-clause-packets g c =
    let two = (rw c.in-Ok-Granted.field-0-is at c.in-Ok-Granted.ensures).step in
    quiet_more c.args.self.pass c.schedule_load.new.pass c.schedule_swap.new.pass
    (quiet_step c.args.self.pass c.schedule_load.new.pass c.in-Some.ensures.step.event c.in-Some.ensures.step.packets)
    (quiet_step c.schedule_load.new.pass c.schedule_swap.new.pass two.event two.packets)

pub returns-in-Ok-Missed-clause-packets : goal.returns-in-Ok-Missed-clause-packets
returns-in-Ok-Missed-clause-packets g c =
    let two = (rw c.in-Ok-Missed.field-0-is at c.in-Ok-Missed.ensures).step in
    quiet_more c.args.self.pass c.schedule_load.new.pass c.schedule_swap.new.pass
    (quiet_step c.args.self.pass c.schedule_load.new.pass c.in-Some.ensures.step.event c.in-Some.ensures.step.packets)
    (quiet_step c.schedule_load.new.pass c.schedule_swap.new.pass two.event two.packets)

pub returns-in-Err-clause-packets : goal.returns-in-Err-clause-packets
returns-in-Err-clause-packets g c =
    let two = c.in-Err.ensures.step in
    quiet_more c.args.self.pass c.schedule_load.new.pass c.schedule_swap.new.pass
    (quiet_step c.args.self.pass c.schedule_load.new.pass c.in-Some.ensures.step.event c.in-Some.ensures.step.packets)
    (quiet_step c.schedule_load.new.pass c.schedule_swap.new.pass two.event two.packets)
