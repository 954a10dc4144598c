use Rattle.std.proofs.Common.{refl, [], ◌∷◌, ◌∙◌}
use Rattle.napi_model.specs.declared.event.Operation.TheVariants.{Look, BusyStop}
use Rattle.napi_calls.proofs.{Packets.{held_self, held_more}, Making.{nothing, more, more_lost}}
use Rattle.napi_calls.proofs.types.Busy.stop.Goals as goal

pub loop-init : goal.loop-init
loop-init g c = (held_self c.args.self.pass, refl, ([], nothing c.args.self.stands))

pub try_stop-requires : goal.try_stop-requires
try_stop-requires g c = c.loop.invariant.2.1.seat.table ∙ c.requires

pub loop-preserved : goal.loop-preserved
loop-preserved g c =
    let i = c.loop.invariant in
    let e = c.in-Changed.ensures in
    (held_more i.0 e.packets.0, e.packets.1 ∙ i.1, more_lost i.2.0 i.2.1 e.events)

pub returns-in-Stopped-clause-events : goal.returns-in-Stopped-clause-events
returns-in-Stopped-clause-events g c =
    let e = c.in-Stopped.ensures.events in
    (c.loop.invariant.2.0, e.0, more (Look e.0) (BusyStop ∷ []) c.loop.invariant.2.1 e.1)

pub returns-in-Stopped-clause-packets : goal.returns-in-Stopped-clause-packets
returns-in-Stopped-clause-packets g c = held_more c.loop.invariant.0 c.in-Stopped.ensures.packets.0

pub returns-in-Stopped-clause-ctx : goal.returns-in-Stopped-clause-ctx
returns-in-Stopped-clause-ctx g c = c.in-Stopped.ensures.packets.1 ∙ c.loop.invariant.1
