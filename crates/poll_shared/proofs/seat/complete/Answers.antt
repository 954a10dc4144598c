use Rattle.{std.proofs.Common.refl, napi_calls.{specs.Packets.polled, proofs.Dealing.{delivers_back, delivers_before}}}
use Rattle.poll_shared.proofs.TriesFacts.{completed-again, completed-released, handed-some, made-behind}
use Rattle.poll_shared.proofs.seat.complete.Goals as goal

pub returns-in-Released-clause-made : goal.returns-in-Released-clause-made
returns-in-Released-clause-made g c =
    let e = c.in-Released.ensures.events in
    (_, e.2, completed-released c.args.thread _ (e.0, e.1, refl))

pub returns-in-Released-clause-packets : goal.returns-in-Released-clause-packets
returns-in-Released-clause-packets g c = delivers_back _ _ _ c.in-Released.ensures.packets c.in-Released.ensures.events.2.seat.number

pub returns-in-Again-clause-made : goal.returns-in-Again-clause-made
returns-in-Again-clause-made g c =
    let e = c.in-Again.ensures.events in
    let h = c.hand_over-caller.ensures.made in
    (_, made-behind _ h.0 e.2 h.1 (handed-some c.args.thread h.0 _ h.2), completed-again c.args.thread _ h.0 _ (e.0, e.1, refl) h.2)

pub returns-in-Again-clause-packets : goal.returns-in-Again-clause-packets
returns-in-Again-clause-packets g c =
    let w = c.args.polling in
    let q = c.in-Again.granted.pass in
    let r = c.hand_over-caller.result.0.pass in
    delivers_before (polled w.pass w.ctx) w.pass q r
    (delivers_back w.pass q w.ctx c.in-Again.ensures.packets c.in-Again.ensures.events.2.seat.number) c.hand_over-caller.ensures.packets
