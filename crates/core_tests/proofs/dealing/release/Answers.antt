use Rattle.{std.proofs.Common.[], napi_calls.proofs.Dealing.{back_unpolled, delivers_behind, delivers_before, delivers_none}}
use Rattle.core_tests.proofs.dealing.release.Goals as goal

pub returns-in-Err-clause-packets : goal.returns-in-Err-clause-packets
returns-in-Err-clause-packets g c = delivers_none c.args.caller.pass c.in-Err.caller.pass c.in-Err.ensures.packets

pub returns-in-Released-clause-packets : goal.returns-in-Released-clause-packets
returns-in-Released-clause-packets g c =
    let fresh = c.in-Ok.ensures.packets in
    delivers_behind [] c.args.caller.pass c.in-Ok.polling.pass c.in-Released.caller.pass fresh.quiet
    (back_unpolled c.in-Ok.polling.pass c.in-Released.caller.pass c.in-Ok.polling.ctx fresh.received c.in-Released.ensures.packets
    c.in-Released.ensures.events.2.seat.number)

pub returns-in-Again-clause-packets : goal.returns-in-Again-clause-packets
returns-in-Again-clause-packets g c =
    let fresh = c.in-Ok.ensures.packets in
    delivers_before [] c.args.caller.pass c.in-Again.granted.pass c.hand.result.pass
    (delivers_behind [] c.args.caller.pass c.in-Ok.polling.pass c.in-Again.granted.pass fresh.quiet
    (back_unpolled c.in-Ok.polling.pass c.in-Again.granted.pass c.in-Ok.polling.ctx fresh.received c.in-Again.ensures.packets
    c.in-Again.ensures.events.2.seat.number))
    c.hand.ensures.packets
