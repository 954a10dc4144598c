use Rattle.poll_runs.proofs.FunctionFacts.{run-is-shown}
use Rattle.poll_runs.proofs.laws.run_is_shown.Goals as goal

pub returns : goal.returns
returns g c = run-is-shown g.B.Bench.polls
