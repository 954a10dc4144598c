use Rattle.{std.proofs.Common.{[], ◌∷◌, false, refl, true}, napi_calls.proofs.Dealing.delivers_none}
use Rattle.poll_runs.specs.Polling.{is_taken, takes}
use Rattle.napi_model.specs.declared.event.Operation.TheVariants.{Take}
use Rattle.napi_calls.specs.declared.state.CallerState.TheVariants.{Rests, Polls}
use Rattle.poll_shared.{proofs.SeatFacts.{seat_does, taken_packets}}
use Rattle.poll_shared.proofs.TriesFacts.{asked}
use Rattle.poll_shared.proofs.seat.SharedHandleInstance.take.Goals as goal
use Rattle.napi_model.specs.declared.event.Call.TheVariants as call

pub returns-in-Ok-clause-does : goal.returns-in-Ok-clause-does
returns-in-Ok-clause-does g c =
    let o = Take c.args.kind true in
    seat_does (takes c.args.kind) _ (Rests c.caller.result) _ (Polls c.in-Ok.polling) _ _ _ (o ∷ []) _
    (c.caller.ensures.was, c.caller.ensures.gone, c.put.ensures) refl refl tt c.in-Ok.ensures.event
    (asked (call.Take c.args.kind) is_taken o (o ∷ []) refl refl)
    (taken_packets c.caller.result.pass c.in-Ok.polling.pass c.in-Ok.polling.ctx c.in-Ok.ensures.packets)

pub returns-in-Err-clause-does : goal.returns-in-Err-clause-does
returns-in-Err-clause-does g c =
    let o = Take c.args.kind false in
    seat_does (takes c.args.kind) _ (Rests c.caller.result) _ (Rests c.in-Err.caller) _ _ _ (o ∷ []) _
    (c.caller.ensures.was, c.caller.ensures.gone, c.put-in-Err.ensures) refl refl tt c.in-Err.ensures.event
    (asked (call.Take c.args.kind) is_taken o (o ∷ []) refl refl)
    (delivers_none c.caller.result.pass c.in-Err.caller.pass c.in-Err.ensures.packets)
