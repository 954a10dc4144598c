use Rattle.poll_runs.proofs.PlainFacts.{runs-agree}
use Rattle.poll_runs.proofs.laws.runs_agree.Goals as goal

pub returns : goal.returns
returns g c = runs-agree g.B.Bench.polls
