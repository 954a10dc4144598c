use Rattle.machine.proofs.LifeFacts.{has-one-report}
use Rattle.machine.proofs.laws.has_one_report.Goals as goal

pub returns : goal.returns
returns c = has-one-report
