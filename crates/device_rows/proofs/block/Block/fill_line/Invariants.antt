use Rattle.{std.proofs.Common.{ℕ, List}, device_rows.specs.Block.Holds}
use Rattle.device_rows.proofs.block.Block.fill_line.Given as goal

abbrev pub invariant-loop : goal.invariant-loop
invariant-loop g l = (bytes : List ℕ) → Holds g.R.Read.remaining l.fn.self bytes → Holds g.R.Read.remaining l.self bytes
