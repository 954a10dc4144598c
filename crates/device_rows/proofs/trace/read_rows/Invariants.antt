use Rattle.std.proofs.Common.{◌≡◌, ℕ, List, length, vec_items}
use Rattle.{csv.specs.Reading.reader_state, device_rows.specs.{Adding.{IsSoFar, rows_with}, Source.{IsOpen, StandsAt}}}
use Rattle.device_rows.proofs.trace.read_rows.Given as goal

abbrev pub invariant-loop-before : goal.invariant-loop-before
invariant-loop-before g l = record {
  reader : IsOpen l.reader;
  so_far : IsSoFar l.switches.of l.rows;
  count : length (vec_items l.rows) ≡ l.before;
  goes_on : (bytes : List ℕ) → StandsAt g.R.Read.remaining l.fn.reader bytes → (left : List ℕ) × StandsAt g.R.Read.remaining l.reader left
      × (rows_with l.version (vec_items l.fn.rows) (reader_state l.fn.reader) bytes
      ≡ rows_with l.version (vec_items l.rows) (reader_state l.reader) left);
}
