use Rattle.{std.proofs.Common.refl, napi_calls.proofs.Standing.{kept, made, self_polling, moved, busy_taken, busy_moved, outside}}
use Rattle.{napi_calls.proofs.{Packets.{quiet_step, taken}, Making.{nothing, step, still}}, napi_model.specs.declared.state.Place.Place}
use Rattle.napi_calls.proofs.types.Caller.take.Goals as goal

pub invariant_of-result : goal.invariant_of-result
invariant_of-result c = record { stands = kept c.take.new.pass c.args.self.stands c.if-not-take.ensures.step.event (λ s. refl) }

pub returns-then-not-take-clause-event : goal.returns-then-not-take-clause-event
returns-then-not-take-clause-event c =
    step (nothing c.args.self.stands) c.if-not-take.ensures.step

pub returns-then-not-take-clause-packets : goal.returns-then-not-take-clause-packets
returns-then-not-take-clause-packets c =
    quiet_step c.args.self.pass c.take.new.pass c.if-not-take.ensures.step.event c.if-not-take.ensures.step.packets

pub invariant_of-result-2 : goal.invariant_of-result-2
invariant_of-result-2 c =
    let e = c.slot_out-ctx.ensures in
    let st = made Place.Polling c.take.new.pass c.args.self.stands c.if-not-take.ensures.step.event (λ s. self_polling _) in record {
      stands = moved c.slot_out-ctx.new.pass st e.keeps.view;
      busy = busy_moved c.slot_out-ctx.new.pass st
          (busy_taken c.take.new.pass c.args.self.stands c.if-not-take.ensures.step.event) e.keeps.view;
      has = outside c.take.new.pass c.slot_out-ctx.new.pass _ e.holds e.keeps.view e.ring e.received;
    }

pub returns-clause-event : goal.returns-clause-event
returns-clause-event c =
    let e = c.slot_out-ctx.ensures in
    still (step (nothing c.args.self.stands) c.if-not-take.ensures.step) e.keeps

pub returns-clause-packets : goal.returns-clause-packets
returns-clause-packets c =
    let e = c.slot_out-ctx.ensures in
    taken c.args.self.pass c.take.new.pass c.slot_out-ctx.new.pass c.slot_out-ctx.result c.if-not-take.ensures.step.event
    c.if-not-take.ensures.step.packets e.received e.keeps.view e.unmarked
