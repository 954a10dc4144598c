use Rattle.driver_core.proofs.WorldFacts.{listed-is-masked}
use Rattle.driver_core.proofs.laws.listed_is_masked.Goals as goal

pub returns : goal.returns
returns c = listed-is-masked
