use Rattle.driver_core.proofs.StepFacts.{calls-are-legal}
use Rattle.driver_core.proofs.laws.calls_are_legal.Goals as goal

pub returns : goal.returns
returns c = calls-are-legal
