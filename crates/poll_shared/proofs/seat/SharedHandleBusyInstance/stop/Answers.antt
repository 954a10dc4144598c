use Rattle.{std.proofs.Common.{refl}, poll_runs.specs.Polling.makes}
use Rattle.napi_model.specs.declared.event.Operation.TheVariants.{BusyStop}
use Rattle.napi_calls.specs.declared.state.CallerState.TheVariants.{Polls, Busy}
use Rattle.poll_shared.{proofs.SeatFacts.{held_packets, seat_does}}
use Rattle.poll_shared.proofs.TriesFacts.{acted}
use Rattle.poll_shared.proofs.seat.SharedHandleBusyInstance.stop.Goals as goal

pub returns-clause-does : goal.returns-clause-does
returns-clause-does g c =
    let e = c.busy.ensures in
    let s = c.stop-polling.ensures.events in
    seat_does (makes BusyStop) _ (Busy c.busy.result) _ (Polls c.stop-polling.result) _ _ _ _ tt (e.was, e.gone, c.put.ensures)
    refl refl tt s.2 (acted BusyStop _ (s.0, s.1, refl))
    (held_packets _ _ _ _ c.stop-polling.ensures.packets s.2.seat.number c.stop-polling.ensures.ctx)
