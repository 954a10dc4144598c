use Rattle.std.proofs.Common.{refl, [], ◌∷◌, ◌∙◌}
use Rattle.napi_model.specs.declared.event.Operation.TheVariants.{Look, BusyTake}
use Rattle.napi_calls.proofs.{Packets.fresh_behind, Making.{nothing, more, more_lost}}
use Rattle.napi_calls.proofs.types.Caller.busy.Goals as goal

pub loop-init : goal.loop-init
loop-init g c = (refl, ([], nothing c.args.self.stands))

pub try_busy-requires : goal.try_busy-requires
try_busy-requires g c = c.loop.invariant.1.1.seat.table ∙ c.requires

pub loop-preserved : goal.loop-preserved
loop-preserved g c =
    (c.in-Changed.ensures.packets ∙ c.loop.invariant.0, more_lost c.loop.invariant.1.0 c.loop.invariant.1.1 c.in-Changed.ensures.events)

pub returns-in-Taken-clause-events : goal.returns-in-Taken-clause-events
returns-in-Taken-clause-events g c =
    let e = c.in-Taken.ensures.events in
    (c.loop.invariant.1.0, e.0, e.1, more (Look e.0) (BusyTake ∷ []) c.loop.invariant.1.1 e.2)

pub returns-in-Refused-clause-events : goal.returns-in-Refused-clause-events
returns-in-Refused-clause-events g c =
    let e = c.in-Refused.ensures.events in
    (c.loop.invariant.1.0, e.0, e.1, more (Look e.0) [] c.loop.invariant.1.1 e.2)

pub returns-in-Taken-clause-packets : goal.returns-in-Taken-clause-packets
returns-in-Taken-clause-packets g c = fresh_behind c.args.self.pass c.loop.caller.pass _ _ c.loop.invariant.0 c.in-Taken.ensures.packets

pub returns-in-Refused-clause-packets : goal.returns-in-Refused-clause-packets
returns-in-Refused-clause-packets g c = c.in-Refused.ensures.packets ∙ c.loop.invariant.0
