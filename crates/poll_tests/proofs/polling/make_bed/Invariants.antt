use Rattle.rx_ring.specs.Ends.{IsOneRing}
use Rattle.poll_tests.proofs.polling.make_bed.Given as goal

abbrev pub invariant-loop-number : goal.invariant-loop-number
invariant-loop-number g l = IsOneRing l.input l.ctx
