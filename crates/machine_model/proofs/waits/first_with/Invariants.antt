use Rattle.std.proofs.Common.{◌≡◌, drop}
use Rattle.machine_model.specs.Waits.{first_with}
use Rattle.machine_model.proofs.waits.first_with.Given as goal

abbrev pub invariant-loop-bucket : goal.invariant-loop-bucket
invariant-loop-bucket l = first_with l.fn.rank 0 l.buckets ≡ first_with l.rank l.bucket (drop l.bucket l.buckets)
