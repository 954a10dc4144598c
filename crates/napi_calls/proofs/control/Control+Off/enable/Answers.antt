use Rattle.std.proofs.Common.{[], ◌∷◌, ◌∙◌}
use Rattle.napi_model.specs.declared.event.Operation.TheVariants.{Look, Enable}
use Rattle.napi_calls.proofs.{Packets.{held_self, held_more, same_self, same_more, gives_behind}, Making.{nothing, more, more_lost}}
use Rattle.napi_calls.proofs.control.Control+Off.enable.Goals as goal

pub loop-init : goal.loop-init
loop-init g c = (held_self c.args.self.pass, same_self c.args.self.state.ctx, ([], nothing c.args.self.controls.stands))

pub try_enable-requires : goal.try_enable-requires
try_enable-requires g c = c.loop.invariant.2.1.seat.table ∙ c.requires

pub loop-preserved : goal.loop-preserved
loop-preserved g c =
    let i = c.loop.invariant in
    let e = c.in-Err.ensures in
    (held_more i.0 e.packets.0, same_more i.1 e.packets.1, more_lost i.2.0 i.2.1 e.events)

pub returns-in-Ok-clause-events : goal.returns-in-Ok-clause-events
returns-in-Ok-clause-events g c =
    let e = c.in-Ok.ensures.events in
    (c.loop.invariant.2.0, e.0, more (Look e.0) (Enable c.args.threaded ∷ []) c.loop.invariant.2.1 e.1)

pub returns-in-Ok-clause-packets : goal.returns-in-Ok-clause-packets
returns-in-Ok-clause-packets g c = let i = c.loop.invariant in gives_behind i.0 i.2.1.seat.number i.1 c.in-Ok.ensures.packets
