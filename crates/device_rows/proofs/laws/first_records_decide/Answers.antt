use Rattle.device_rows.proofs.DecidingFacts.{first-decide}
use Rattle.device_rows.proofs.laws.first_records_decide.Goals as goal

pub returns : goal.returns
returns c records count many = first-decide records count many
