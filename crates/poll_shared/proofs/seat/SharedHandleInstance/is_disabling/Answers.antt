use Rattle.{std.proofs.Common.{[], ◌∷◌, refl}, poll_runs.specs.Polling.{disabling, flags_in}}
use Rattle.napi_model.specs.declared.event.Operation.TheVariants.{Look}
use Rattle.napi_calls.specs.declared.state.CallerState.TheVariants.{Polls}
use Rattle.poll_shared.{proofs.SeatFacts.{held_packets, seat_does}}
use Rattle.poll_shared.proofs.TriesFacts.{asked}
use Rattle.poll_shared.proofs.seat.SharedHandleInstance.is_disabling.Goals as goal
use Rattle.napi_model.specs.declared.event.Call.TheVariants as call

pub returns-clause-does : goal.returns-clause-does
returns-clause-does g c =
    let e = c.polling-polling.ensures in
    let o = Look c.look-seen.result in
    seat_does disabling _ (Polls c.polling-polling.result) _ (Polls c.look-seen.new.self) _ _ _ (o ∷ []) _
    (e.was, e.gone, c.put.ensures) refl refl tt c.look-seen.ensures.event
    (asked call.Look (λ o. (flags_in o).disable) o (o ∷ []) refl refl)
    (held_packets c.polling-polling.result.pass c.look-seen.new.self.pass c.polling-polling.result.ctx c.look-seen.new.self.ctx
    c.look-seen.ensures.packets c.look-seen.ensures.event.seat.number c.look-seen.ensures.ctx)
