use Rattle.{dql_core.{proofs.Accepted.Makes, specs.{Dql.Shows, Limit.{limit_event_fault, limit_after}}}}
use Rattle.dql_core.proofs.queue.Dql.run.Given as goal

abbrev pub invariant-loop-i : goal.invariant-loop-i
invariant-loop-i l = Makes limit_event_fault limit_after Shows l.initial.self l.self l.events l.i l.refused
