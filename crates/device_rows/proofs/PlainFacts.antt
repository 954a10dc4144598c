-- How csv reads plain rows.
use Rattle.std.proofs.Common.{◌≡◌, ◌∙◌, ℕ, ◌+◌, ◌-◌, ◌*◌, ◌<◌, ◌≤◌, ◌^◌, true, false, List, [], ◌∷◌, ◌++◌, length, take, drop, refl}
use Rattle.std.proofs.Common.{sym, ap}
use Rattle.std.proofs.Common.{append_assoc, arith, Some, slice_index_or, take-append-drop, length-take-le}
use Rattle.std.proofs.lemmas.{Bool.{and_parts, le-leb, Decides.nat_tests}, List.{drop_more, take_more}}
use Rattle.std.proofs.lemmas.Int.Digits.{digits_value_push}
use Rattle.std.specs.{Prelude.{◌&&◌, codes, nat_le}, Char.{digit_value, is_ascii_digit}, Str.all_ascii_digits}
use Rattle.csv.specs.{Machine.next_record, Reading.{default_config, strip_bom}, Writing.{default_writer, needs_byte}}
use Rattle.csv.specs.Records.{field_at}
use Rattle.csv.proofs.RoundTrip.{field-run, record-same}
use Rattle.csv.specs.declared.parser.State.TheVariants as state
use Rattle.device_rows.specs.Plain.{IsPlain, StartsWithEvent, StartsWithNumber, StartsWithRecord, StartsWithRow, StartsWithTitle}
use Rattle.device_rows.specs.Plain.{StartsWithTitles}
use Rattle.device_rows.specs.Record.{four_of, is_numeral, numeral, version_of}
use Rattle.device_rows.specs.declared.{event.RowEvent.RowEvent}
use Rattle.device_rows.proofs.{NumeralFacts.digits-push, ShortFacts.short-row}

-- a digit is no special character of csv's
digit-plain : (byte : ℕ) → is_ascii_digit byte ≡ true → needs_byte default_writer byte ≡ false
digit-plain byte h = grind (arith, nat_tests)

digits-plain : (field : List ℕ) → all_ascii_digits field ≡ true → IsPlain field
digits-plain [] h = refl
digits-plain (c ∷ cs) h =
    let parts = and_parts (is_ascii_digit c) (all_ascii_digits cs) h in
    rw (digit-plain c parts.0, digits-plain cs parts.1) refl

pub numeral-plain : (field : List ℕ) → is_numeral field ≡ true → IsPlain field
numeral-plain field h =
    digits-plain field (and_parts (nat_le (length field) 20) (all_ascii_digits field)
    (and_parts (nat_le 1 (length field)) (nat_le (length field) 20 && all_ascii_digits field) h).1).1

-- a plain field and the comma after it
comma-ends : (fields : List (List ℕ)) (x rest : List ℕ) → IsPlain x
    → next_record default_config state.StartField fields [] (x ++ 44 ∷ rest)
    ≡ next_record default_config state.StartField (fields ++ x ∷ []) [] rest
unfolding next_record
comma-ends fields x rest plain =
    let run = field-run fields x 44 rest refl in
    let run' = rw plain at run in
    run'

-- a plain field and the line feed after it
line-ends : (fields : List (List ℕ)) (x rest : List ℕ) → IsPlain x
    → next_record default_config state.StartField fields [] (x ++ 10 ∷ rest) ≡ Some (fields ++ x ∷ [], state.StartRecord, rest)
unfolding next_record
line-ends fields x rest plain =
    let run = field-run fields x 10 rest refl in
    let run' = rw plain at run in
    run'

-- if a text starts with a numeral, reading a record starts like reading a field
numeral-starts : (x rest : List ℕ) → is_numeral x ≡ true
    → next_record default_config state.StartRecord [] [] (x ++ rest) ≡ next_record default_config state.StartField [] [] (x ++ rest)
numeral-starts [] rest h = cc h
numeral-starts (c ∷ cs) rest h =
    let digits = (and_parts (nat_le (length (c ∷ cs)) 20) (all_ascii_digits (c ∷ cs))
    (and_parts (nat_le 1 (length (c ∷ cs))) (nat_le (length (c ∷ cs)) 20 && all_ascii_digits (c ∷ cs)) h).1).1 in
    let digit = (and_parts (is_ascii_digit c) (all_ascii_digits cs) digits).0 in
    record-same [] [] c (cs ++ rest) (grind (arith, nat_tests)) (grind (arith, nat_tests))

-- after these fields csv reads the rest
pub record Begins (text : List ℕ) (fields : List (List ℕ)) (rest : List ℕ) : Type 0 where
  pub used : List ℕ
  pub splits : text ≡ used ++ rest
  pub reads : (more : List ℕ) → next_record default_config state.StartRecord [] [] (text ++ more)
      ≡ next_record default_config state.StartField fields [] (rest ++ more)

pub begins-first : (text rest : List ℕ) (number : ℕ) → (first : StartsWithNumber text 44 number rest) → Begins text (first.field ∷ []) rest
begins-first text rest number first = record {
  used = first.field ++ 44 ∷ [];
  splits = first.splits ∙ sym (append_assoc first.field (44 ∷ []) rest);
  reads = λ more. ap (λ t. next_record default_config state.StartRecord [] [] (t ++ more)) first.splits
      ∙ ap (next_record default_config state.StartRecord [] []) (append_assoc first.field (44 ∷ rest) more)
      ∙ numeral-starts first.field (44 ∷ (rest ++ more)) first.is_one
      ∙ comma-ends [] first.field (rest ++ more) (numeral-plain first.field first.is_one);
}

splits-more : (text used left field rest : List ℕ) (stop : ℕ) → text ≡ used ++ left → left ≡ field ++ stop ∷ rest
    → text ≡ (used ++ (field ++ stop ∷ [])) ++ rest
splits-more text used left field rest stop splits is =
    splits ∙ ap (λ t. used ++ t) (is ∙ sym (append_assoc field (stop ∷ []) rest)) ∙ sym (append_assoc used (field ++ stop ∷ []) rest)

module _ (text left field rest : List ℕ) (fields : List (List ℕ)) (begins : Begins text fields left) (plain : IsPlain field) where
  pub begins-next : left ≡ field ++ 44 ∷ rest → Begins text (fields ++ field ∷ []) rest
  begins-next is = record {
    used = begins.used ++ (field ++ 44 ∷ []);
    splits = splits-more text begins.used left field rest 44 begins.splits is;
    reads = λ more. begins.reads more ∙ ap (λ t. next_record default_config state.StartField fields [] (t ++ more)) is
        ∙ ap (next_record default_config state.StartField fields []) (append_assoc field (44 ∷ rest) more)
        ∙ comma-ends fields field (rest ++ more) plain;
  }

  pub record-ends : left ≡ field ++ 10 ∷ rest → StartsWithRecord text (fields ++ field ∷ []) rest
  record-ends is = record {
    used = begins.used ++ (field ++ 10 ∷ []);
    splits = splits-more text begins.used left field rest 10 begins.splits is;
    reads = λ more. begins.reads more ∙ ap (λ t. next_record default_config state.StartField fields [] (t ++ more)) is
        ∙ ap (next_record default_config state.StartField fields []) (append_assoc field (10 ∷ rest) more)
        ∙ line-ends fields field (rest ++ more) plain;
  }

digit-worth : (byte : ℕ) → is_ascii_digit byte ≡ true → digit_value byte ≡ byte - 48
digit-worth byte h = grind (arith, nat_tests)

pub digit-small : (byte : ℕ) → is_ascii_digit byte ≡ true → byte - 48 ≤ 9
digit-small byte h = grind (arith, nat_tests)

-- one more digit at the start of a text
pub digits-more : (text : List ℕ) (place : ℕ) → place < length text → all_ascii_digits (take place text) ≡ true
    → is_ascii_digit (slice_index_or text place 0) ≡ true → all_ascii_digits (take (place + 1) text) ≡ true
digits-more text place below front digit =
    rw (take_more text place 0 below, digits-push (take place text) (slice_index_or text place 0), front, digit) refl

pub number-more : (text : List ℕ) (place : ℕ) → place < length text → is_ascii_digit (slice_index_or text place 0) ≡ true
    → numeral (take (place + 1) text) ≡ numeral (take place text) * 10 + (slice_index_or text place 0 - 48)
number-more text place below digit =
    rw (take_more text place 0 below, ← digit-worth (slice_index_or text place 0) digit)
    (digits_value_push 10 (take place text) (slice_index_or text place 0))

pub splits-at : (text : List ℕ) (place stop : ℕ) → place < length text → slice_index_or text place 0 ≡ stop
    → text ≡ take place text ++ stop ∷ drop (place + 1) text
splits-at text place stop below ends =
    sym (take-append-drop place text) ∙ ap (λ l. take place text ++ l) (drop_more text place 0 below)
    ∙ ap (λ s. take place text ++ s ∷ drop (place + 1) text) ends

-- if a byte that isn't a digit follows a number, the number can be split off
pub number-ends : (text : List ℕ) (place stop number : ℕ) → place < length text → 1 ≤ place → place ≤ 20
    → all_ascii_digits (take place text) ≡ true → number ≡ numeral (take place text) → slice_index_or text place 0 ≡ stop
    → StartsWithNumber text stop number (drop (place + 1) text)
number-ends text place stop number below some few digits value ends =
    let size : length (take place text) ≡ place = length-take-le place text (omega (arith, below)) in
    record {
      field = take place text;
      splits = splits-at text place stop below ends;
      is_one = rw (size, le-leb 1 place some, le-leb place 20 few, digits) refl;
      value = value;
    }

pub row-starts : (version : ℕ) (text behind-m behind-d behind-e rest : List ℕ) (moment device value : ℕ) (event : RowEvent)
    → StartsWithNumber text 44 moment behind-m → StartsWithNumber behind-m 44 device behind-d
    → StartsWithEvent version behind-d event behind-e → StartsWithNumber behind-e 10 value rest → moment < 2 ^ 64
    → StartsWithRow version text (record { moment = moment; device = device; event = event; value = value }) rest
unfolding four_of field_at
row-starts version text behind-m behind-d behind-e rest moment device value event m d e v small =
    let begun = begins-first text behind-m moment m in
    let device-ends = begins-next text behind-m d.field behind-d _ begun (numeral-plain d.field d.is_one) d.splits in
    let name-ends = begins-next text behind-d e.name behind-e _ device-ends e.plain e.splits in
    record {
      fields = m.field ∷ d.field ∷ e.name ∷ v.field ∷ [];
      starts = record-ends text behind-e v.field rest _ name-ends (numeral-plain v.field v.is_one) v.splits;
      tells = λ fits bears number. short-row version moment device value event m.field d.field e.name v.field m.is_one m.value d.is_one
          d.value v.is_one v.value e.is_its_name small fits bears number;
    }

abbrev pub titles : List ℕ
titles = codes "moment,device,event,value\n"

abbrev pub titles-of-two : List ℕ
titles-of-two = codes "moment,device,event,value,2\n"

pub title-starts : (title : List ℕ) (fields : List (List ℕ)) (text rest : List ℕ)
    → ((rest : List ℕ) → next_record default_config state.StartRecord [] [] (title ++ rest) ≡ Some (fields, state.StartRecord, rest))
    → ((rest : List ℕ) → strip_bom (title ++ rest) ≡ title ++ rest) → text ≡ title ++ rest → StartsWithTitle text fields rest
title-starts title fields text rest reads unmarked splits =
    let all : (more : List ℕ) → text ++ more ≡ title ++ (rest ++ more) =
    λ more. ap (λ t. t ++ more) splits ∙ append_assoc title rest more in
    record {
      starts = record {
        used = title;
        splits = splits;
        reads = λ more. ap (next_record default_config state.StartRecord [] []) (all more) ∙ reads (rest ++ more);
      };
      unmarked = λ more. ap strip_bom (all more) ∙ unmarked (rest ++ more) ∙ sym (all more);
    }

pub titles-start : (text rest : List ℕ) → text ≡ titles ++ rest → StartsWithTitles text 1 rest
unfolding next_record strip_bom version_of field_at
titles-start text rest splits =
    let fields : List (List ℕ) = codes "moment" ∷ codes "device" ∷ codes "event" ∷ codes "value" ∷ [] in
    record { fields = fields; title = title-starts titles fields text rest (λ rest. refl) (λ rest. refl) splits; tells = refl }

pub titles-of-two-start : (text rest : List ℕ) → text ≡ titles-of-two ++ rest → StartsWithTitles text 2 rest
unfolding next_record strip_bom version_of field_at
titles-of-two-start text rest splits =
    let fields : List (List ℕ) = codes "moment" ∷ codes "device" ∷ codes "event" ∷ codes "value" ∷ codes "2" ∷ [] in
    record { fields = fields; title = title-starts titles-of-two fields text rest (λ rest. refl) (λ rest. refl) splits; tells = refl }
