use Rattle.poll_runs.proofs.PlainFacts.{list-afterwards}
use Rattle.poll_runs.proofs.laws.plain_list_afterwards.Goals as goal

pub returns : goal.returns
returns c = list-afterwards
