use Rattle.std.proofs.Common.{Bool, ap, append-nil, refl, subst, sym, ◌∙◌}
use Rattle.poll_runs.specs.Polling.{completed, next_of}
use Rattle.napi_calls.specs.declared.state.CallerState.TheVariants.{Rests, Polls}
use Rattle.poll_shared.specs.{declared.seat.SharedHandle.SharedHandle, Seat.packets_by}
use Rattle.poll_shared.specs.{Tries.PlanMakes}
use Rattle.poll_shared.proofs.SeatFacts.{seat_does}
use Rattle.poll_shared.proofs.seat.SharedHandleInstance.complete.Goals as goal

pub returns-clause-does : goal.returns-clause-does
returns-clause-does g c =
    let e = c.polling-polling.ensures in
    let m = c.complete-caller.ensures.made in
    let next = next_of c.complete-caller.result.1 in
    let same = ap (λ (s : SharedHandle _). s.thread) e.gone in
    seat_does (completed c.args.self.now.thread) _ (Polls c.polling-polling.result) _ (Rests c.complete-caller.result.0) _ _ _ m.0 next
    (e.was, e.gone, c.put.ensures) refl refl tt m.1 (subst (λ (b : Bool). PlanMakes (completed b) m.0 next) same m.2)
    (c.complete-caller.ensures.packets ∙ sym (append-nil (packets_by (Polls c.polling-polling.result))))
