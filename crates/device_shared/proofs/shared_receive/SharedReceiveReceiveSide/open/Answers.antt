use Rattle.std.proofs.Common.{refl, rules}
use Rattle.napi_calls.specs.declared.state.ControlState.TheVariants as control
use Rattle.device_shared.proofs.OpeningFacts.{opened}
use Rattle.device_shared.proofs.shared_receive.SharedReceiveReceiveSide.open.Goals as goal

pub invariant_of-result : goal.invariant_of-result
invariant_of-result g c =
    let made = c.in-Ok-new.made in
    let e = c.in-Ok-new.ensures in
    let three = c.three_callers-interrupt.result in
    let new = c.three_callers-interrupt.ensures.new in
    let enabled = c.enable-control.result in (
      opened made.0 c.in-Ok.ends.0 c.in-Ok.ends.1 e.ring c.in-Ok.ensures.one three.0 c.look-seen.new.self three.1 three.2
          (control.On enabled) made.2.pass enabled.pass new.0 c.look-seen.ensures.event.seat new.1 new.2 e.control
          c.enable-control.ensures.events.2.seat refl,
      record { three = e.count.1; none = c.three_callers-interrupt.ensures.none; room_is = search rules },
    )
