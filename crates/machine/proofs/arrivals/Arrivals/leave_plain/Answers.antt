use Rattle.std.proofs.Common.{refl}
use Rattle.machine.proofs.ReadingFacts.{given-same}
use Rattle.machine.proofs.arrivals.Arrivals.leave_plain.Goals as goal

pub returns-clause-same : goal.returns-clause-same
returns-clause-same g c earlier all given =
    given-same g.R.Read.remaining c.args.self.now earlier all given _ refl refl refl (λ state bytes left between.
    c.in_ok-self.ensures.same state bytes (rw c.replace-rows.ensures.value left) between)
