-- The rows of the remaining records, by the next record.
use Rattle.std.proofs.{Common.{◌<◌, length-append}, lemmas.Bool.lt-ltb}
use Rattle.device_rows.specs.Adding.{rows_with}
use Rattle.std.proofs.Common.{◌≡◌, ◌∙◌, ℕ, suc, ◌+◌, ◌-◌, ◌≤◌, true, false, List, [], ◌∷◌, ◌++◌, length, refl, sym, ap, arith, Some, None}
use Rattle.{std.{proofs.Common.Option, specs.Prelude.{Result, Ok, Err, nat_lt}}, csv.specs.Machine.{Read, next_record}}
use Rattle.csv.specs.{Reading.{default_config, reader_state, records_from, records_next}, declared.reader.Reader.Reader}
use Rattle.{csv.specs.declared.parser.State.State, device_rows.specs.{Source.{StandsAt, ReadsNext}, Record.{row_of, version_of}}}
use Rattle.device_rows.specs.{Switch.{refusal, switch_of}, Trace.{rows_after, trace_of, version_in, with_row}}
use Rattle.device_rows.specs.declared.{fault.TraceFault.TraceFault, row.Row.Row}

pub records-next : (n m : ℕ) (s : State) (xs : List ℕ) → n ≡ suc m
    → records_from default_config n s xs ≡ records_next (records_from default_config m) (next_record default_config s [] [] xs)
unfolding records_from
records-next n m s xs e = rw e refl

pub records-zero : (n : ℕ) (s : State) (xs : List ℕ) → n ≡ 0 → records_from default_config n s xs ≡ []
unfolding records_from
records-zero n s xs e = rw e refl

-- no record is left
pub records-none : {R : Type 0} (remaining : R → Option (List ℕ)) (reader after : Reader R) (fields : List (List ℕ)) (n m : ℕ)
    (left : List ℕ) → n ≡ suc m
    → ReadsNext remaining (next_record default_config (reader_state reader) [] [] left) false fields after
    → records_from default_config n (reader_state reader) left ≡ []
records-none {R} remaining reader after fields n m left e h =
    records-next n m (reader_state reader) left e ∙ by (next_record default_config (reader_state reader) [] [] left) h
  where
    by : (o : Option Read) → ReadsNext remaining o false fields after → records_next (records_from default_config m) o ≡ []
    by None h = refl
    by (Some p) h = cc h.0

-- one record, and then those that remain in the reader
pub records-more : {R : Type 0} (remaining : R → Option (List ℕ)) (reader after : Reader R) (fields : List (List ℕ)) (n m : ℕ)
    (left : List ℕ) → n ≡ suc m
    → ReadsNext remaining (next_record default_config (reader_state reader) [] [] left) true fields after
    → (rest : List ℕ) × StandsAt remaining after rest
    × (records_from default_config n (reader_state reader) left ≡ fields ∷ records_from default_config m (reader_state after) rest)
records-more {R} remaining reader after fields n m left e h =
    rw (records-next n m (reader_state reader) left e) (by (next_record default_config (reader_state reader) [] [] left) h)
  where
    by : (o : Option Read) → ReadsNext remaining o true fields after → (rest : List ℕ) × StandsAt remaining after rest
        × (records_next (records_from default_config m) o ≡ fields ∷ records_from default_config m (reader_state after) rest)
    by None h = cc h
    by (Some p) h = (p.2, h.3, rw (h.1, h.2) refl)

module _ (version : ℕ) where
  pub rows-end : (rows : List Row) → rows_after version rows [] ≡ Ok rows
  unfolding rows_after
  rows-end rows = refl

  -- the rows of all records are those of the next one and of the records after it
  pub goes-on : {R : Type 0} (remaining : R → Option (List ℕ)) (reader after : Reader R) (fields : List (List ℕ)) (rows : List Row)
      (all : Result (List Row) TraceFault) (left : List ℕ) → length rows ≤ 100000
      → ReadsNext remaining (next_record default_config (reader_state reader) [] [] left) true fields after
      → all ≡ rows_with version rows (reader_state reader) left → (rest : List ℕ) × StandsAt remaining after rest
      × (all ≡ rows_after version rows (fields ∷ records_from default_config (100001 - (length rows + 1)) (reader_state after) rest))
  goes-on {R} remaining reader after fields rows all left small next so_far =
      let (rest, stands, one) =
      records-more remaining reader after fields (100001 - length rows) (100001 - (length rows + 1)) left (omega (arith, small)) next in
      (rest, stands, so_far ∙ ap (rows_after version rows) one)

  -- if no record is left, or none was requested, the rows are those read so far
  pub ends : {R : Type 0} (remaining : R → Option (List ℕ)) (reader after : Reader R) (fields : List (List ℕ)) (rows : List Row)
      (all : Result (List Row) TraceFault) (left : List ℕ) → length rows ≤ 100000
      → ReadsNext remaining (next_record default_config (reader_state reader) [] [] left) false fields after
      → all ≡ rows_with version rows (reader_state reader) left → all ≡ Ok rows
  ends {R} remaining reader after fields rows all left small next so_far =
      so_far ∙ ap (rows_after version rows)
      (records-none remaining reader after fields (100001 - length rows) (100001 - (length rows + 1)) left (omega (arith, small)) next)
      ∙ rows-end rows

  pub rows-over : (rows : List Row) (fields : List (List ℕ)) (records : List (List (List ℕ))) → nat_lt (length rows) 100000 ≡ false
      → rows_after version rows (fields ∷ records) ≡ Err TraceFault.TooManyRows
  unfolding rows_after
  rows-over rows fields records e = rw e refl

  pub rows-bad : (rows : List Row) (fields : List (List ℕ)) (records : List (List (List ℕ))) (why : TraceFault)
      → nat_lt (length rows) 100000 ≡ true
      → with_row version rows fields ≡ Err why → rows_after version rows (fields ∷ records) ≡ Err why
  unfolding rows_after
  rows-bad rows fields records why e h = rw (e, h) refl

  pub rows-good : (rows more : List Row) (fields : List (List ℕ)) (records : List (List (List ℕ))) → nat_lt (length rows) 100000 ≡ true
      → with_row version rows fields ≡ Ok more → rows_after version rows (fields ∷ records) ≡ rows_after version more records
  unfolding rows_after
  rows-good rows more fields records e h = rw (e, h) refl

  -- a record that isn't a row
  pub with_row-bad : (rows : List Row) (fields : List (List ℕ)) (why : TraceFault) → Err why ≡ row_of version (length rows + 1) fields
      → with_row version rows fields ≡ Err why
  unfolding with_row
  with_row-bad rows fields why e = rw (sym e) refl

  -- a record whose row isn't allowed after the earlier rows
  pub with_row-refused : (rows : List Row) (fields : List (List ℕ)) (row : Row) (why : TraceFault)
      → Ok row ≡ row_of version (length rows + 1) fields
      → refusal (length rows + 1) row.event (switch_of row.device rows) ≡ Some why → with_row version rows fields ≡ Err why
  unfolding with_row
  with_row-refused rows fields row why e h = rw (sym e, h) refl

  -- a record whose row is allowed after the earlier rows
  pub with_row-good : (rows : List Row) (fields : List (List ℕ)) (row : Row) → Ok row ≡ row_of version (length rows + 1) fields
      → refusal (length rows + 1) row.event (switch_of row.device rows) ≡ None → with_row version rows fields ≡ Ok (rows ++ row ∷ [])
  unfolding with_row
  with_row-good rows fields row e h = rw (sym e, h) refl

-- a record that holds one more row
pub with-next : (version : ℕ) (rows : List Row) (row : Row) (fields : List (List ℕ)) (state after : State) (text rest : List ℕ)
    → length rows < 100000 → next_record default_config state [] [] text ≡ Some (fields, after, rest)
    → with_row version rows fields ≡ Ok (rows ++ row ∷ [])
    → rows_with version rows state text ≡ rows_with version (rows ++ row ∷ []) after rest
with-next version rows row fields state after text rest below reads one =
    let left = 100001 - length (rows ++ row ∷ []) in
    ap (rows_after version rows) (records-next (100001 - length rows) left state text (omega (arith, below, length-append rows (row ∷ [])))
    ∙ ap (records_next (records_from default_config left)) reads)
    ∙ rows-good version rows (rows ++ row ∷ []) fields (records_from default_config left after rest) (lt-ltb _ _ below) one

-- an empty line at the front
pub with-empty : (version : ℕ) (rows : List Row) (text : List ℕ) → length rows ≤ 100000
    → rows_with version rows State.StartRecord text ≡ rows_with version rows State.StartRecord (10 ∷ text)
unfolding next_record
with-empty version rows text few =
    let n : 100001 - length rows ≡ suc (100000 - length rows) = omega (arith, few) in
    ap (rows_after version rows) (records-next (100001 - length rows) (100000 - length rows) State.StartRecord text n
    ∙ sym (records-next (100001 - length rows) (100000 - length rows) State.StartRecord (10 ∷ text) n))

-- no first record
pub trace-none : (records : List (List (List ℕ))) → records ≡ [] → trace_of records ≡ Err TraceFault.BadHeader
trace-none records e = rw e refl

-- a first record that isn't a header
pub trace-other : (records : List (List (List ℕ))) (fields : List (List ℕ)) (rest : List (List (List ℕ))) → records ≡ fields ∷ rest
    → version_of fields ≡ None
    → trace_of records ≡ Err TraceFault.BadHeader
trace-other records fields rest e h = rw (e, h) refl

-- the header
pub trace-rows : (version : ℕ) (records : List (List (List ℕ))) (fields : List (List ℕ)) (rest : List (List (List ℕ)))
    → records ≡ fields ∷ rest → version_of fields ≡ Some version
    → trace_of records ≡ rows_after version [] rest
trace-rows version records fields rest e h = rw (e, h) refl

pub first-version : (version : ℕ) (records : List (List (List ℕ))) (fields : List (List ℕ)) (rest : List (List (List ℕ)))
    → records ≡ fields ∷ rest → version_of fields ≡ Some version
    → version_in records ≡ version
first-version version records fields rest e h = rw (e, h) refl
