use Rattle.std.proofs.Common.{ap, refl, Some}
use Rattle.napi_calls.specs.declared.state.CallerState.TheVariants.{Polls}
use Rattle.poll_shared.{proofs.SeatFacts.{polled_packets, seat_gives}}
use Rattle.poll_shared.proofs.seat.SharedHandleInstance.poll.Goals as goal

pub returns-clause-does : goal.returns-clause-does
returns-clause-does g c =
    let e = c.polling-polling.ensures in
    let w = c.polling-polling.result in
    let p = c.poll-work.ensures in (
      _,
      seat_gives _ (Polls w) _ (Polls c.poll-work.new.self) _ w.ctx c.poll-work.new.self.ctx c.args.weight c.poll-work.new.batch.items
          (e.was, e.gone, c.put.ensures) (ap Some p.pass) refl refl p.next
          (polled_packets w.pass c.poll-work.new.self.pass w.ctx c.poll-work.new.self.ctx c.poll-work.new.batch.items p.pass p.polled),
      refl,
      p.work,
    )
