-- How one more row changes the switches.
use Rattle.std.proofs.Common.{◌≡◌, ◌≢◌, ◌∙◌, ℕ, ◌+◌, ◌-◌, ◌≤◌, Bool, true, false, List, [], ◌∷◌, ◌++◌, length, refl, arith, Some, None}
use Rattle.std.{proofs.{Common.{slice_index_or, slice_set}, lemmas.Bool.{eqb-true, eqb-false}}, specs.Prelude.{◌==◌, unwrap_or}}
use Rattle.std.proofs.lemmas.{List.{map-append, get_or-set_other, Elements.filter-append}, Grind.get_or-set_at, Bool.Decides.nat_tests}
use Rattle.device_rows.specs.{Row.device_fits, Switch.{Tracks, events_of, set_by, switch_after, switch_of}}
use Rattle.device_rows.specs.declared.{event.RowEvent.{RowEvent, TheVariants.Softirq}, row.Row.Row}
use Rattle.device_rows.specs.declared.{switch.Switch.{Switch, TheVariants.Unopened}}

pub switch_after-append : (s : Switch) (xs ys : List RowEvent) → switch_after s (xs ++ ys) ≡ switch_after (switch_after s xs) ys
switch_after-append s [] ys = refl
switch_after-append s (x ∷ xs) ys = switch_after-append _ xs ys

pub events_of-append : (d : ℕ) (xs ys : List Row) → events_of d (xs ++ ys) ≡ events_of d xs ++ events_of d ys
events_of-append d xs ys = rw (filter-append (λ (row : Row). row.device == d) xs ys) (map-append (λ (row : Row). row.event) _ _)

pub switch_of-append : (d : ℕ) (xs ys : List Row) → switch_of d (xs ++ ys) ≡ switch_after (switch_of d xs) (events_of d ys)
unfolding switch_of
switch_of-append d xs ys = rw (events_of-append d xs ys) (switch_after-append Unopened (events_of d xs) (events_of d ys))

-- a row of another device
pub switch_of-other : (d : ℕ) (xs : List Row) (row : Row) → (row.device == d) ≡ false → switch_of d (xs ++ row ∷ []) ≡ switch_of d xs
switch_of-other d xs row e = switch_of-append d xs (row ∷ []) ∙ rw e refl

-- a row of this one
pub switch_of-same : (d : ℕ) (xs : List Row) (row : Row) → (row.device == d) ≡ true
    → switch_of d (xs ++ row ∷ []) ≡ unwrap_or (set_by row.event) (switch_of d xs)
switch_of-same d xs row e = switch_of-append d xs (row ∷ []) ∙ rw e refl

-- a row that sets nothing
pub tracks-same : (table : List Switch) (rows : List Row) (row : Row) → set_by row.event ≡ None → Tracks table rows
    → Tracks table (rows ++ row ∷ [])
tracks-same table rows row e t place below = by (row.device == place + 1) refl
  where
    by : (b : Bool) → (row.device == place + 1) ≡ b → slice_index_or table place Unopened ≡ switch_of (place + 1) (rows ++ row ∷ [])
    by true h = rw (switch_of-same (place + 1) rows row h, e) (t place below)
    by false h = rw (switch_of-other (place + 1) rows row h) (t place below)

-- a row that sets its device's switch
pub tracks-set : (table : List Switch) (rows : List Row) (row : Row) (s : Switch) → set_by row.event ≡ Some s → 1 ≤ row.device
    → row.device ≤ 16 → length table ≡ 16
    → Tracks table rows → Tracks (slice_set table (row.device - 1) s) (rows ++ row ∷ [])
tracks-set table rows row s e low high size t place below = by (row.device == place + 1) refl
  where
    by : (b : Bool) → (row.device == place + 1) ≡ b
        → slice_index_or (slice_set table (row.device - 1) s) place Unopened ≡ switch_of (place + 1) (rows ++ row ∷ [])
    by true h =
        let at : row.device ≡ place + 1 = eqb-true _ _ h in
        rw (switch_of-same (place + 1) rows row h, e) (get_or-set_at table (row.device - 1) place s Unopened (omega arith) (omega arith))
    by false h =
        let at : row.device ≢ place + 1 = eqb-false _ _ h in
        rw (switch_of-other (place + 1) rows row h) (get_or-set_other table (row.device - 1) place s Unopened (omega arith) ∙ t place below)

-- the range of the device of a row that isn't a softirq
pub device_range : (e : RowEvent) (n : ℕ) → e ≢ Softirq → device_fits e n ≡ true → (1 ≤ n) × (n ≤ 16)
device_range Softirq n other h = absurd (other refl)
device_range e n other h = grind (arith, nat_tests)
