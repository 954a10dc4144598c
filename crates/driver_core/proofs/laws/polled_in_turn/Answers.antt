use Rattle.driver_core.proofs.LineFacts.{polled-in-turn}
use Rattle.driver_core.proofs.laws.polled_in_turn.Goals as goal

pub returns : goal.returns
returns c = polled-in-turn
