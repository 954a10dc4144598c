use Rattle.machine.proofs.LifeFacts.{reports-lives}
use Rattle.machine.proofs.laws.reports_live.Goals as goal

pub returns : goal.returns
returns c = reports-lives c.each_lives.ensures
