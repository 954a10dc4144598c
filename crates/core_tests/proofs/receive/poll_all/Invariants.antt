use Rattle.rx_ring.specs.Ends.{SameCtx}
use Rattle.core_tests.proofs.receive.poll_all.Given as goal

abbrev pub invariant-loop : goal.invariant-loop
invariant-loop g l = SameCtx l.initial.ctx l.ctx
