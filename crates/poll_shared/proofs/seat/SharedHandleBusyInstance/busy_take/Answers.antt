use Rattle.std.proofs.Common.{refl}
use Rattle.{napi_calls.proofs.Dealing.delivers_none, poll_runs.specs.Polling.{busy_takes, is_taken}}
use Rattle.napi_model.specs.declared.event.Operation.TheVariants.{BusyTake, Look}
use Rattle.napi_calls.specs.declared.state.CallerState.TheVariants.{Rests, Busy}
use Rattle.poll_shared.proofs.{SeatFacts.{seat_does, taken_packets}, TriesFacts.asked}
use Rattle.poll_shared.proofs.seat.SharedHandleBusyInstance.busy_take.Goals as goal
use Rattle.napi_model.specs.declared.event.Call.TheVariants as call

pub returns-in-Ok-clause-does : goal.returns-in-Ok-clause-does
returns-in-Ok-clause-does g c =
    let e = c.in-Ok.ensures.events in
    seat_does busy_takes _ (Rests c.caller.result) _ (Busy c.in-Ok.busy) _ _ _ _ _
    (c.caller.ensures.was, c.caller.ensures.gone, c.put.ensures) refl refl tt e.3
    (asked call.BusyTake is_taken BusyTake _ refl (e.0, e.1, e.2, refl))
    (taken_packets c.caller.result.pass c.in-Ok.busy.pass c.in-Ok.busy.ctx c.in-Ok.ensures.packets)

pub returns-in-Err-clause-does : goal.returns-in-Err-clause-does
returns-in-Err-clause-does g c =
    let e = c.in-Err.ensures.events in
    seat_does busy_takes _ (Rests c.caller.result) _ (Rests c.in-Err.caller) _ _ _ _ _
    (c.caller.ensures.was, c.caller.ensures.gone, c.put-in-Err.ensures) refl refl tt e.3
    (asked call.BusyTake is_taken (Look e.1) _ e.2 (e.0, refl))
    (delivers_none c.caller.result.pass c.in-Err.caller.pass c.in-Err.ensures.packets)
