use Rattle.{std.proofs.Common.arith, machine_model.proofs.WaitFacts.bucket-below}
use Rattle.machine_model.proofs.waits.bucket_of.Goals as goal

pub overflow_add-result : goal.overflow_add-result
overflow_add-result c =
    omega (arith, bucket-below c.args.wait c.saturating_sub-rest.result c.ranges.wait.fits c.saturating_sub-rest.ensures)

pub returns-clause-below : goal.returns-clause-below
returns-clause-below c = bucket-below c.args.wait c.saturating_sub-rest.result c.ranges.wait.fits c.saturating_sub-rest.ensures
