use Rattle.{dql_core.proofs.Accepted.Makes, tx_ring.specs.{Ring.ShowsQueue, Queue.{tx_event_fault, tx_after}}}
use Rattle.tx_ring.proofs.ring.TxRing.run.Given as goal

abbrev pub invariant-loop-i : goal.invariant-loop-i
invariant-loop-i l = Makes tx_event_fault tx_after ShowsQueue l.initial.self l.self l.events l.i l.refused
