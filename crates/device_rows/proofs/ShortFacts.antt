-- The row of fields whose numbers and event were parsed.
use Rattle.std.{proofs.{Common.{◌≡◌, ℕ, ◌<◌, ◌^◌, List, true, Some, refl, sym}, lemmas.Bool.lt-ltb}, specs.Prelude.{Ok, nat_lt}}
use Rattle.device_rows.specs.{Record.{is_numeral, numeral, of_fields, ranged}, Row.{device_fits, event_of, value_fits}}
use Rattle.device_rows.specs.declared.event.RowEvent.{RowEvent}

pub short-row : (version moment device value : ℕ) (event : RowEvent) (m d e v : List ℕ)
    → is_numeral m ≡ true → moment ≡ numeral m → is_numeral d ≡ true → device ≡ numeral d → is_numeral v ≡ true → value ≡ numeral v
    → event_of version e ≡ Some event → moment < 2 ^ 64 → device_fits event device ≡ true → value_fits event value ≡ true
    → (number : ℕ) → of_fields version number m d e v ≡ Ok (record { moment = moment; device = device; event = event; value = value })
unfolding of_fields ranged
short-row version moment device value event m d e v is_m at_m is_d at_d is_v at_v names small fits bears number =
    let low : nat_lt moment (2 ^ 64) ≡ true = lt-ltb _ _ small in
    rw (is_m, is_d, is_v, names, sym at_m, sym at_d, sym at_v, low, fits, bears) refl
