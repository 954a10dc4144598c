-- How csv reads plain rows of arrivals (numbers, commas, a line feed).
use Rattle.std.{proofs.{Common.{◌≡◌, ℕ, true, false, List, [], ◌∷◌, ◌++◌, Some, refl}}, specs.{Prelude.{◌==◌}}}
use Rattle.csv.specs.{Machine.next_record, Reading.strip_bom, Records.field_at}
use Rattle.device_rows.proofs.PlainFacts.{begins-first, begins-next, numeral-plain, record-ends, title-starts}
use Rattle.device_rows.specs.Plain.{StartsWithNumber}
use Rattle.machine.specs.{Arrivals.{arrival_fields, is_arrivals_title, arrival_of_fields}, Plain.{StartsWithHeader, StartsWithNumbers}}

module _ (queues : ℕ) (text behind-m behind-d behind-b rest : List ℕ) (moment device bytes flow : ℕ)
    (m : StartsWithNumber text 44 moment behind-m) (d : StartsWithNumber behind-m 44 device behind-d) where
  -- a row of a machine with one queue per device has three numbers
  pub three-numbers : (queues == 1) ≡ true → StartsWithNumber behind-d 10 bytes rest
      → StartsWithNumbers queues text (record { moment = moment; device = device; bytes = bytes; flow = 0 }) rest
  unfolding arrival_fields arrival_of_fields field_at
  three-numbers one b =
      let begun = begins-first text behind-m moment m in
      let two = begins-next text behind-m d.field behind-d _ begun (numeral-plain d.field d.is_one) d.splits in
      record {
        fields = m.field ∷ d.field ∷ b.field ∷ [];
        starts = record-ends text behind-d b.field rest _ two (numeral-plain b.field b.is_one) b.splits;
        tells = λ s n last. rw (one, m.is_one, d.is_one, b.is_one, m.value, d.value, b.value) refl;
      }

  -- a row of a machine with several queues per device has four numbers
  pub four-numbers : (queues == 1) ≡ false → StartsWithNumber behind-d 44 bytes behind-b → StartsWithNumber behind-b 10 flow rest
      → StartsWithNumbers queues text (record { moment = moment; device = device; bytes = bytes; flow = flow }) rest
  unfolding arrival_fields arrival_of_fields field_at
  four-numbers several b f =
      let begun = begins-first text behind-m moment m in
      let two = begins-next text behind-m d.field behind-d _ begun (numeral-plain d.field d.is_one) d.splits in
      let three = begins-next text behind-d b.field behind-b _ two (numeral-plain b.field b.is_one) b.splits in
      record {
        fields = m.field ∷ d.field ∷ b.field ∷ f.field ∷ [];
        starts = record-ends text behind-b f.field rest _ three (numeral-plain f.field f.is_one) f.splits;
        tells = λ s n last. rw (several, m.is_one, d.is_one, b.is_one, f.is_one, m.value, d.value, b.value, f.value) refl;
      }

abbrev ns-title : List ℕ
ns-title = 110 ∷ 115 ∷ []

abbrev device-title : List ℕ
device-title = 100 ∷ 101 ∷ 118 ∷ 105 ∷ 99 ∷ 101 ∷ []

abbrev bytes-title : List ℕ
bytes-title = 98 ∷ 121 ∷ 116 ∷ 101 ∷ 115 ∷ []

abbrev flow-title : List ℕ
flow-title = 102 ∷ 108 ∷ 111 ∷ 119 ∷ []

abbrev titles : List (List ℕ)
titles = ns-title ∷ device-title ∷ bytes-title ∷ []

abbrev header-of : List ℕ → List ℕ
header-of end = 110 ∷ 115 ∷ 44 ∷ 100 ∷ 101 ∷ 118 ∷ 105 ∷ 99 ∷ 101 ∷ 44 ∷ 98 ∷ 121 ∷ 116 ∷ 101 ∷ 115 ∷ end

-- the header of a machine with one queue per device, `ns,device,bytes`
pub three-titles : (queues : ℕ) (text rest : List ℕ) → (queues == 1) ≡ true → text ≡ header-of (10 ∷ []) ++ rest
    → StartsWithHeader queues text rest
unfolding next_record strip_bom arrival_fields field_at
three-titles queues text rest one splits = record {
  fields = titles;
  title = title-starts (header-of (10 ∷ [])) titles text rest (λ rest. refl) (λ rest. refl) splits;
  tells = titled;
}
  where
    four : arrival_fields queues titles ≡ Some (ns-title, device-title, bytes-title, 48 ∷ [])
    four = rw one refl

    titled : is_arrivals_title queues (arrival_fields queues titles) ≡ true
    titled = rw (four, one) refl

-- the header of a machine with several queues per device, `ns,device,bytes,flow`
pub four-titles : (queues : ℕ) (text rest : List ℕ) → (queues == 1) ≡ false
    → text ≡ header-of (44 ∷ 102 ∷ 108 ∷ 111 ∷ 119 ∷ 10 ∷ []) ++ rest → StartsWithHeader queues text rest
unfolding next_record strip_bom arrival_fields field_at
four-titles queues text rest several splits =
    record {
      fields = titles ++ flow-title ∷ [];
      title = title-starts (header-of (44 ∷ 102 ∷ 108 ∷ 111 ∷ 119 ∷ 10 ∷ [])) (titles ++ flow-title ∷ []) text rest (λ rest. refl)
          (λ rest. refl) splits;
      tells = titled;
    }
  where
    four : arrival_fields queues (titles ++ flow-title ∷ []) ≡ Some (ns-title, device-title, bytes-title, flow-title)
    four = rw several refl

    titled : is_arrivals_title queues (arrival_fields queues (titles ++ flow-title ∷ [])) ≡ true
    titled = rw (four, several) refl
