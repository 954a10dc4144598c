use Rattle.device_rows.proofs.DecidingFacts.{fault-stands}
use Rattle.device_rows.proofs.laws.first_fault_stands.Goals as goal

pub returns : goal.returns
returns c header records more fault faulty = fault-stands header records more fault faulty
