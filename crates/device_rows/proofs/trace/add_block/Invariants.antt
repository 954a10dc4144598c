use Rattle.std.proofs.Common.{◌≡◌, ℕ, List, vec_items}
use Rattle.csv.specs.declared.parser.State.TheVariants as state
use Rattle.device_rows.specs.{Adding.{IsSoFar, rows_with}, Block.Holds}
use Rattle.device_rows.proofs.trace.add_block.Given as goal

abbrev pub invariant-loop : goal.invariant-loop
invariant-loop g l = record {
  so_far : IsSoFar l.switches.of l.rows;
  same : (bytes : List ℕ) → Holds g.R.Read.remaining l.fn.block bytes
      → (left : List ℕ) × Holds g.R.Read.remaining l.block left
      × (rows_with l.version (vec_items l.fn.rows) state.StartRecord bytes ≡ rows_with l.version (vec_items l.rows) state.StartRecord left);
}
