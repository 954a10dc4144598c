use Rattle.driver_core.proofs.JoinFacts.{masked-first-is-fetched}
use Rattle.driver_core.proofs.laws.masked_first_is_fetched.Goals as goal

pub returns : goal.returns
returns c = masked-first-is-fetched
