use Rattle.std.proofs.Common.{[], ◌∷◌, ◌∙◌, true}
use Rattle.napi_model.specs.declared.event.Operation.TheVariants.{Look, TakeDisable, Unmark}
use Rattle.napi_calls.proofs.{Packets.fresh_behind, Making.{more, more_waits, more_busy}}
use Rattle.napi_calls.proofs.control.Control+On.disable_pausing.Goals as goal

pub loop-init : goal.loop-init
loop-init g c = (c.mark-control.ensures.packets, ([], c.mark-control.ensures.event))

pub try_take-requires : goal.try_take-requires
try_take-requires g c = c.loop.invariant.1.1.seat.table ∙ c.requires

pub loop-preserved-in-Busy : goal.loop-preserved-in-Busy
loop-preserved-in-Busy g c = (c.in-Busy.ensures.packets ∙ c.loop.invariant.0, more_busy c.loop.invariant.1 c.in-Busy.ensures.events)

pub loop-preserved : goal.loop-preserved
loop-preserved g c = (c.in-Changed.ensures.packets ∙ c.loop.invariant.0, more_waits c.loop.invariant.1 c.in-Changed.ensures.events)

pub returns-in-Taken-clause-events : goal.returns-in-Taken-clause-events
returns-in-Taken-clause-events g c =
    let e = c.in-Taken.ensures.events in
    (c.loop.invariant.1.0, e.0, more (Look e.0) (TakeDisable true ∷ Unmark ∷ []) c.loop.invariant.1.1 e.1)

pub returns-in-Taken-clause-packets : goal.returns-in-Taken-clause-packets
returns-in-Taken-clause-packets g c = fresh_behind c.args.self.pass c.loop.control.pass _ _ c.loop.invariant.0 c.in-Taken.ensures.packets
