-- What the fields of one record mean by themselves: a row, or one of the errors 2 to 5. See docs/FORMATS.md, "The trace".
use Rattle.std.specs.Prelude.{ℕ, ◌^◌, ◌==◌, ◌&&◌, Bool, false, List, length, Option, Some, None, option_and_then, if◌then◌else◌, nat_le}
use Rattle.std.specs.{Prelude.{nat_lt, codes, Result, Ok, Err}, Str.{all_ascii_digits, bytes_eq, Parse.digits_value}}
use Rattle.{csv.specs.Records.field_at}
use Rattle.device_rows.specs.{Row.{device_fits, event_of, value_fits}, declared.event.RowEvent.RowEvent}
use Rattle.device_rows.specs.declared.{fault.TraceFault.{TraceFault, TheVariants.{BadFields, BadNumber, BadEvent, OutOfRange}}, row.Row.Row}

-- a sequence of steps that ends at the first None
infixl 10 ◌>>=◌
abbrev ◌>>=◌ : {A B : Type 0} → Option A → (A → Option B) → Option B
found >>= next = option_and_then next found

-- the four fields of a record that has four
abbrev pub Four : Type 0
Four = List ℕ × List ℕ × List ℕ × List ℕ

abbrev pub first_four : List (List ℕ) → Option Four
first_four fields = do
  moment ← field_at fields 0
  device ← field_at fields 1
  event ← field_at fields 2
  value ← field_at fields 3
  Some (moment, device, event, value)

unfoldable pub four_of : List (List ℕ) → Option Four
four_of fields = if length fields == 4 then first_four fields else None

-- one to twenty ASCII digits, and the number that they denote
abbrev pub is_numeral : List ℕ → Bool
is_numeral field = nat_le 1 (length field) && (nat_le (length field) 20 && all_ascii_digits field)

abbrev pub numeral : List ℕ → ℕ
numeral field = digits_value 10 field

-- row n with these numbers, if they are in their ranges
unfoldable pub ranged : ℕ → ℕ → ℕ → RowEvent → ℕ → Result Row TraceFault
ranged n moment device event value =
    if nat_lt moment (2 ^ 64) && (device_fits event device && value_fits event value)
    then Ok (record { moment = moment; device = device; event = event; value = value })
    else Err (OutOfRange n)

-- the same, if the event's name was found
abbrev pub of_event : ℕ → ℕ → ℕ → Option RowEvent → ℕ → Result Row TraceFault
of_event n moment device None value = Err (BadEvent n)
of_event n moment device (Some event) value = ranged n moment device event value

-- the same from the bytes of the four fields, of which three have to be numbers
unfoldable pub of_fields : ℕ → ℕ → List ℕ → List ℕ → List ℕ → List ℕ → Result Row TraceFault
of_fields version n moment device event value =
    if is_numeral moment && (is_numeral device && is_numeral value)
    then of_event n (numeral moment) (numeral device) (event_of version event) (numeral value)
    else Err (BadNumber n)

-- the same for a record, which has to have four fields
abbrev pub of_four : ℕ → ℕ → Option Four → Result Row TraceFault
of_four version n None = Err (BadFields n)
of_four version n (Some four) = of_fields version n four.0 four.1 four.2 four.3

-- row n of a trace of this version, or its first error of 2 to 5
abbrev pub row_of : ℕ → ℕ → List (List ℕ) → Result Row TraceFault
row_of version n fields = of_four version n (four_of fields)

-- the titles of a trace's first record
abbrev pub is_title : Option Four → Bool
is_title None = false
is_title (Some four) =
    bytes_eq four.0 (codes "moment")
    && (bytes_eq four.1 (codes "device") && (bytes_eq four.2 (codes "event") && bytes_eq four.3 (codes "value")))

abbrev pub is_two : Option (List ℕ) → Bool
is_two None = false
is_two (Some field) = bytes_eq field (codes "2")

-- the version of a trace, by its first record: only the titles, or these and a 2
unfoldable pub version_of : List (List ℕ) → Option ℕ
version_of fields =
    if is_title (first_four fields)
    then (if length fields == 4 then Some 1 else if length fields == 5 && is_two (field_at fields 4) then Some 2 else None)
    else None
