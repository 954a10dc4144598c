use Rattle.rx_ring.specs.Ends.{SameIn}
use Rattle.core_tests.proofs.bed.put_four.Given as goal

abbrev pub invariant-loop-number : goal.invariant-loop-number
invariant-loop-number g l = SameIn l.fn.input l.input
