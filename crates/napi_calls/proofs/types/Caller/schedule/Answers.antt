use Rattle.std.proofs.Common.{refl, [], ◌∷◌, ◌∙◌}
use Rattle.napi_model.specs.declared.event.{Operation.TheVariants.{Look, Schedule}, Prep.Prep}
use Rattle.napi_calls.proofs.Making.{nothing, more, more_lost}
use Rattle.napi_calls.proofs.types.Caller.schedule.Goals as goal

pub loop-init : goal.loop-init
loop-init g c = (refl, ([], nothing c.args.self.stands))

pub try_schedule-requires : goal.try_schedule-requires
try_schedule-requires g c = c.loop.invariant.1.1.seat.table ∙ c.requires

pub loop-preserved : goal.loop-preserved
loop-preserved g c =
    (c.in-Changed.ensures.packets ∙ c.loop.invariant.0, more_lost c.loop.invariant.1.0 c.loop.invariant.1.1 c.in-Changed.ensures.events)

pub returns-in-Granted-clause-events : goal.returns-in-Granted-clause-events
returns-in-Granted-clause-events g c =
    let e = c.in-Granted.ensures.events in
    (c.loop.invariant.1.0, e.0, more (Look e.0) (Schedule Prep.Granted ∷ []) c.loop.invariant.1.1 e.1)

pub returns-in-Missed-clause-events : goal.returns-in-Missed-clause-events
returns-in-Missed-clause-events g c =
    let e = c.in-Missed.ensures.events in
    (c.loop.invariant.1.0, e.0, more (Look e.0) (Schedule Prep.Missed ∷ []) c.loop.invariant.1.1 e.1)

pub returns-in-Disabled-clause-events : goal.returns-in-Disabled-clause-events
returns-in-Disabled-clause-events g c =
    (c.loop.invariant.1.0, more (Schedule Prep.Disabled) [] c.loop.invariant.1.1 c.in-Disabled.ensures.events)

pub returns-in-Granted-clause-packets : goal.returns-in-Granted-clause-packets
returns-in-Granted-clause-packets g c = c.in-Granted.ensures.packets ∙ c.loop.invariant.0

pub returns-in-Missed-clause-packets : goal.returns-in-Missed-clause-packets
returns-in-Missed-clause-packets g c = c.in-Missed.ensures.packets ∙ c.loop.invariant.0

pub returns-in-Disabled-clause-packets : goal.returns-in-Disabled-clause-packets
returns-in-Disabled-clause-packets g c = c.in-Disabled.ensures.packets ∙ c.loop.invariant.0
