use Rattle.poll_runs.proofs.PlainFacts.{own-arrivals}
use Rattle.poll_runs.proofs.laws.no_other_arrivals.Goals as goal

pub returns : goal.returns
returns c = own-arrivals
