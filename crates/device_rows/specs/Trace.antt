-- The rows of a trace, or its first error, as a function of the records of the text. See docs/FORMATS.md, "The trace".
use Rattle.std.specs.Prelude.{◌≡◌, ⊤, ℕ, ◌+◌, true, List, [], ◌∷◌, ◌++◌, length, Option, Some, None, if◌then◌else◌, nat_lt, unwrap_or}
use Rattle.{std.specs.Prelude.{Result, Ok, Err}, csv.specs.Reading.{default_config, records, strip_bom}, device_rows.specs.Record.row_of}
use Rattle.device_rows.specs.{Record.version_of, Row.{device_fits, value_fits}, Switch.{refusal, switch_of, unless_refused}}
use Rattle.device_rows.specs.declared.{fault.TraceFault.{TraceFault, TheVariants.{BadHeader, TooManyRows}}, row.Row.Row}

-- a sequence of steps that ends at the first error
infixl 10 ◌>>=◌
abbrev pub ◌>>=◌ : {A B : Type 0} → Result A TraceFault → (A → Result B TraceFault) → Result B TraceFault
(Ok x) >>= next = next x
(Err fault) >>= next = Err fault

-- the earlier rows and the next one, or its first error: first by the row itself, and then by the earlier rows of its device
unfoldable pub with_row : ℕ → List Row → List (List ℕ) → Result (List Row) TraceFault
with_row version earlier fields = do
  row ← row_of version (length earlier + 1) fields
  unless_refused (refusal (length earlier + 1) row.event (switch_of row.device earlier)) (earlier ++ row ∷ [])

-- the earlier rows and those of the records, or the first error among these; for a row 100001, the error that it exists comes
-- before any error of its own
unfoldable pub rows_after : ℕ → List Row → List (List (List ℕ)) → Result (List Row) TraceFault
rows_after version earlier [] = Ok earlier
rows_after version earlier (fields ∷ records) =
    if nat_lt (length earlier) 100000 then with_row version earlier fields >>= (λ rows. rows_after version rows records)
    else Err TooManyRows

-- the rows after the first record, which has the version
abbrev pub rows_behind : Option ℕ → List (List (List ℕ)) → Result (List Row) TraceFault
rows_behind None records = Err BadHeader
rows_behind (Some version) records = rows_after version [] records

-- the rows of a list of records, or the first error
abbrev pub trace_of : List (List (List ℕ)) → Result (List Row) TraceFault
trace_of [] = Err BadHeader
trace_of (header ∷ records) = rows_behind (version_of header) records

-- the version of a list of records that is a trace
abbrev pub version_in : List (List (List ℕ)) → ℕ
version_in [] = 1
version_in (header ∷ records) = unwrap_or (version_of header) 1

-- every record of a text, as `csv` reads it by its defaults; a byte-order mark at the front is skipped
unfoldable pub records_of : List ℕ → List (List (List ℕ))
records_of bytes = records default_config (strip_bom bytes)

-- a row that may follow these earlier rows
pub record IsAccepted (earlier : List Row) (row : Row) : Type 0 where
  pub device : device_fits row.event row.device ≡ true
  pub value : value_fits row.event row.value ≡ true
  pub in_turn : refusal (length earlier + 1) row.event (switch_of row.device earlier) ≡ None

-- rows each of which may follow the earlier ones and those before it
abbrev pub AcceptedAfter : List Row → List Row → Type 0
AcceptedAfter earlier [] = ⊤
AcceptedAfter earlier (row ∷ rows) = IsAccepted earlier row × AcceptedAfter (earlier ++ row ∷ []) rows

-- a trace: its version, and its rows
pub record TraceView : Type 0 where
  pub version : ℕ
  pub rows : List Row
