-- Stations with distinct numbers.
use Rattle.std.specs.{Prelude.{◌==◌, ◌&&◌, ℕ, not, Bool, true, List, [], ◌∷◌, map}, List.list_any}
use Rattle.poll_engine.specs.declared.station.Station.{Station}

-- no number occurs twice
abbrev pub are_distinct : List ℕ → Bool
are_distinct [] = true
are_distinct (n ∷ ns) = not (list_any (λ m. m == n) ns) && are_distinct ns

abbrev pub numbers_of : {D : Type 0} → List (Station D) → List ℕ
numbers_of stations = map (λ station. station.number) stations

abbrev pub have_distinct_numbers : {D : Type 0} → List (Station D) → Bool
have_distinct_numbers stations = are_distinct (numbers_of stations)
