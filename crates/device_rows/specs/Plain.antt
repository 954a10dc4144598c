-- Plain rows: digits, commas, an event's name, a line feed.
use Rattle.std.specs.Prelude.{◌≡◌, ℕ, true, false, List, [], ◌∷◌, ◌++◌, Some, Ok}
use Rattle.std.specs.List.{list_any}
use Rattle.csv.specs.{Machine.next_record, Reading.{default_config, strip_bom}, Writing.{default_writer, needs_byte}}
use Rattle.csv.specs.declared.parser.State.TheVariants as state
use Rattle.device_rows.specs.{Record.{is_numeral, numeral, row_of, version_of}, Row.{device_fits, event_of, value_fits}}
use Rattle.device_rows.specs.declared.{event.RowEvent.RowEvent, row.Row.Row}

-- a field without a comma, a quote or a line end
abbrev pub IsPlain : List ℕ → Type 0
IsPlain field = list_any (needs_byte default_writer) field ≡ false

-- a text is a number that this byte ends, followed by the rest
pub record StartsWithNumber (text : List ℕ) (stop number : ℕ) (rest : List ℕ) : Type 0 where
  pub field : List ℕ
  pub splits : text ≡ field ++ stop ∷ rest
  pub is_one : is_numeral field ≡ true
  pub value : number ≡ numeral field

-- a text is the name of this event that a comma ends, followed by the rest
pub record StartsWithEvent (version : ℕ) (text : List ℕ) (event : RowEvent) (rest : List ℕ) : Type 0 where
  pub name : List ℕ
  pub splits : text ≡ name ++ 44 ∷ rest
  pub plain : IsPlain name
  pub is_its_name : event_of version name ≡ Some event

-- a text, whatever follows it, starts with this record
pub record StartsWithRecord (text : List ℕ) (fields : List (List ℕ)) (rest : List ℕ) : Type 0 where
  pub used : List ℕ
  pub splits : text ≡ used ++ rest
  pub reads : (more : List ℕ)
      → next_record default_config state.StartRecord [] [] (text ++ more) ≡ Some (fields, state.StartRecord, rest ++ more)

-- a text starts with a record of this row, if the row's numbers are in their ranges
pub record StartsWithRow (version : ℕ) (text : List ℕ) (row : Row) (rest : List ℕ) : Type 0 where
  pub fields : List (List ℕ)
  pub starts : StartsWithRecord text fields rest
  pub tells : device_fits row.event row.device ≡ true → value_fits row.event row.value ≡ true
      → (number : ℕ) → row_of version number fields ≡ Ok row

-- a text starts with this record, and not with a byte-order mark
pub record StartsWithTitle (text : List ℕ) (fields : List (List ℕ)) (rest : List ℕ) : Type 0 where
  pub starts : StartsWithRecord text fields rest
  pub unmarked : (more : List ℕ) → strip_bom (text ++ more) ≡ text ++ more

-- a text starts with the titles of a trace of this version
pub record StartsWithTitles (text : List ℕ) (version : ℕ) (rest : List ℕ) : Type 0 where
  pub fields : List (List ℕ)
  pub title : StartsWithTitle text fields rest
  pub tells : version_of fields ≡ Some version
