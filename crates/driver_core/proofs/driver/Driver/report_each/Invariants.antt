use Rattle.driver_core.proofs.TurnFacts.{Reported}
use Rattle.driver_core.proofs.driver.Driver.report_each.Given as goal

abbrev pub invariant-loop : goal.invariant-loop
invariant-loop l = Reported l.counter l.fn.interrupts l.left l.fn.self l.self
