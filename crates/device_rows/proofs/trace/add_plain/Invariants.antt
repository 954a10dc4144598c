use Rattle.std.proofs.Common.{◌≡◌, ℕ, List, ◌++◌, length, vec_items}
use Rattle.device_rows.specs.Adding.{IsSoFar, rows_with}
use Rattle.csv.specs.declared.parser.State.TheVariants as state
use Rattle.device_rows.proofs.trace.add_plain.Given as goal

abbrev pub invariant-loop-before : goal.invariant-loop-before
invariant-loop-before l = record {
  so_far : IsSoFar l.switches.of l.rows;
  count : length (vec_items l.rows) ≡ l.before;
  behind : (used : List ℕ) × (l.text ≡ used ++ l.left);
  same : (more : List ℕ) → rows_with l.version (vec_items l.fn.rows) state.StartRecord (l.text ++ more)
      ≡ rows_with l.version (vec_items l.rows) state.StartRecord (l.left ++ more);
}
