use Rattle.poll_runs.proofs.FunctionFacts.{run-is-function}
use Rattle.poll_runs.proofs.laws.run_is_function.Goals as goal

pub returns : goal.returns
returns g c = run-is-function g.B.Bench.polls
