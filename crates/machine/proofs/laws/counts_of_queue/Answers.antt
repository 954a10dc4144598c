use Rattle.machine.proofs.CountFacts.{counts-of-queue}
use Rattle.machine.proofs.laws.counts_of_queue.Goals as goal

pub returns : goal.returns
returns c = counts-of-queue
