use Rattle.std.proofs.Common.{◌∙◌}
use Rattle.napi_calls.proofs.Dealing.{turn_delivers}
use Rattle.core_tests.proofs.dealing.poll_two.Goals as goal

pub returns-in-Ok-clause-packets : goal.returns-in-Ok-clause-packets
returns-in-Ok-clause-packets g c =
    let fresh = c.in-Ok.ensures.packets in
    turn_delivers c.args.caller.pass c.in-Ok.polling.pass c.poll.new.self.pass c.requeue.result.pass c.in-Ok.polling.ctx c.poll.new.self.ctx
    c.poll.new.batch.items
    (fresh.quiet ∙ c.loop.invariant.1) fresh.received c.poll.ensures.pass c.poll.ensures.polled c.requeue.ensures.packets
    c.requeue.ensures.event.seat.number
