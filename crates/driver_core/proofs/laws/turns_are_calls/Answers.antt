use Rattle.driver_core.proofs.JoinFacts.{turns-are-calls}
use Rattle.driver_core.proofs.laws.turns_are_calls.Goals as goal

pub returns : goal.returns
returns c = turns-are-calls
