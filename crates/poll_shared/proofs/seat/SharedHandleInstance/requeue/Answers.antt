use Rattle.{std.proofs.Common.{[], ◌∷◌, refl}, poll_runs.specs.Polling.makes, napi_model.specs.declared.event.Operation.TheVariants.Hand}
use Rattle.napi_calls.specs.declared.state.CallerState.TheVariants.{Rests, Polls}
use Rattle.poll_shared.{proofs.SeatFacts.{back_packets, seat_does}}
use Rattle.poll_shared.proofs.TriesFacts.{acted}
use Rattle.poll_shared.proofs.seat.SharedHandleInstance.requeue.Goals as goal
use Rattle.napi_model.specs.declared.state.Kind.TheVariants as kind

pub returns-clause-does : goal.returns-clause-does
returns-clause-does g c =
    let e = c.polling.ensures in
    let o = Hand kind.List in
    seat_does (makes o) _ (Polls c.polling.result) _ (Rests c.requeue-caller.result) _ _ _ (o ∷ []) tt (e.was, e.gone, c.put.ensures)
    refl refl tt c.requeue-caller.ensures.event (acted o (o ∷ []) refl)
    (back_packets _ _ _ c.requeue-caller.ensures.packets c.requeue-caller.ensures.event.seat.number)
