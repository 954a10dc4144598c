use Rattle.{std.proofs.Common.{[], ◌∷◌, refl}, poll_runs.specs.Polling.makes}
use Rattle.napi_model.specs.declared.event.{Done.TheVariants.Held, Operation.TheVariants.Complete}
use Rattle.napi_calls.specs.declared.state.CallerState.TheVariants.{Busy}
use Rattle.poll_shared.{proofs.SeatFacts.{held_packets, seat_does}}
use Rattle.poll_shared.proofs.TriesFacts.{acted}
use Rattle.poll_shared.proofs.seat.SharedHandleBusyInstance.hold.Goals as goal

pub returns-clause-does : goal.returns-clause-does
returns-clause-does g c =
    let e = c.busy-busy.ensures in
    let o = Complete Held in
    seat_does (makes o) _ (Busy c.busy-busy.result) _ (Busy c.complete_held.new.self) _ _ _ (o ∷ []) tt
    (e.was, e.gone, c.put.ensures) refl refl tt c.complete_held.ensures.event (acted o (o ∷ []) refl)
    (held_packets _ _ _ _ c.complete_held.ensures.packets c.complete_held.ensures.event.seat.number c.complete_held.ensures.ctx)
