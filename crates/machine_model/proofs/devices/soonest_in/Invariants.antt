use Rattle.machine_model.{specs.Shown.{IsMask, has_timer}, proofs.TimerFacts.Walked}
use Rattle.machine_model.proofs.devices.soonest_in.Given as goal

abbrev pub invariant-walk : goal.invariant-walk
invariant-walk l = IsMask has_timer l.places l.fn.timed → Walked l.places l.fn.timed l.best l.left

abbrev pub decreases-walk : goal.decreases-walk
decreases-walk l = l.left
