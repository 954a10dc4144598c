use Rattle.rx_ring.specs.Ends.{SameIn}
use Rattle.core_tests.proofs.receive.put_all.Given as goal

abbrev pub invariant-loop : goal.invariant-loop
invariant-loop g l = SameIn l.initial.input l.input
