use Rattle.std.proofs.Common.{[], ◌∷◌, ◌∙◌}
use Rattle.napi_model.specs.declared.event.Operation.TheVariants.{Look, Complete}
use Rattle.napi_calls.proofs.{Packets.{held_self, held_more, same_self, same_more, gives_behind}, Making.{nothing, more, more_lost}}
use Rattle.napi_model.specs.declared.event.Done.TheVariants as done
use Rattle.napi_calls.proofs.types.Polling.complete.Goals as goal

pub loop-init : goal.loop-init
loop-init g c = (held_self c.args.self.pass, same_self c.args.self.ctx, ([], nothing c.args.self.stands))

pub try_complete-requires : goal.try_complete-requires
try_complete-requires g c = c.loop.invariant.2.1.seat.table ∙ c.requires

pub loop-preserved : goal.loop-preserved
loop-preserved g c =
    let i = c.loop.invariant in
    let e = c.in-Changed.ensures in
    (held_more i.0 e.packets.0, same_more i.1 e.packets.1, more_lost i.2.0 i.2.1 e.events)

pub returns-in-Released-clause-events : goal.returns-in-Released-clause-events
returns-in-Released-clause-events g c =
    let e = c.in-Released.ensures.events in
    (c.loop.invariant.2.0, e.0, more (Look e.0) (Complete done.Released ∷ []) c.loop.invariant.2.1 e.1)

pub returns-in-Again-clause-events : goal.returns-in-Again-clause-events
returns-in-Again-clause-events g c =
    let e = c.in-Again.ensures.events in
    (c.loop.invariant.2.0, e.0, more (Look e.0) (Complete done.Again ∷ []) c.loop.invariant.2.1 e.1)

pub returns-in-Released-clause-packets : goal.returns-in-Released-clause-packets
returns-in-Released-clause-packets g c = let i = c.loop.invariant in gives_behind i.0 i.2.1.seat.number i.1 c.in-Released.ensures.packets

pub returns-in-Again-clause-packets : goal.returns-in-Again-clause-packets
returns-in-Again-clause-packets g c = let i = c.loop.invariant in gives_behind i.0 i.2.1.seat.number i.1 c.in-Again.ensures.packets
