-- Stations with distinct numbers: there are at most 16 of them.
use Rattle.std.proofs.{lemmas.Grind.common_steps, lemmas.Map.Steps.length-le_from_distinct_below, lemmas.Map.Keys.IsDistinct-cons}
use Rattle.std.proofs.lemmas.Bool.{eqb-true, ne_eqb}
use Rattle.std.proofs.Common.{◌≡◌, ℕ, ◌<◌, ◌≤◌, Bool, true, false, List, [], ◌∷◌, refl, arith, length, All, eqb}
use Rattle.std.proofs.lemmas.List.Elements.{All-head, All-tail}
use Rattle.std.specs.{Prelude.{◌==◌, ◌||◌}, List.{AllByRecursion, IsDistinct, list_any}}
use Rattle.poll_engine.specs.{Opens.IsStation, declared.station.Station.Station, Numbers.{are_distinct, numbers_of}}

-- a number that isn't in a list differs from each of the list
apart : (n : ℕ) (ns : List ℕ) → list_any (λ m. m == n) ns ≡ false → AllByRecursion (λ m. eqb n m ≡ false) ns
apart n [] h = tt
apart n (m ∷ ms) h = grind (arith, common_steps, apart n ms)

distinct : (ns : List ℕ) → are_distinct ns ≡ true → IsDistinct eqb ns
unfolding IsDistinct
distinct [] h = tt
distinct (n ∷ ns) h = grind (arith, common_steps, apart, distinct ns)

module _ {D : Type 0} where
  -- 0 is no station's number
  none_zero : (ss : List (Station D)) → All IsStation ss → AllByRecursion (λ m. eqb 0 m ≡ false) (numbers_of ss)
  none_zero [] all = tt
  none_zero (s ∷ ss) all = let here = (All-head IsStation s ss all).number.0 in
      (ne_eqb 0 s.number (λ same. omega (arith, here, same)), none_zero ss (All-tail IsStation s ss all))

  below_17 : (ss : List (Station D)) → All IsStation ss → (q : ℕ) → list_any (eqb q) (numbers_of ss) ≡ true → q < 17
  below_17 [] all q h = absurd cc
  below_17 (s ∷ ss) all q h = by (eqb q s.number) refl h (below_17 ss (All-tail IsStation s ss all) q)
    where
      by : (b : Bool) → eqb q s.number ≡ b → (b || list_any (eqb q) (numbers_of ss)) ≡ true
          → (list_any (eqb q) (numbers_of ss) ≡ true → q < 17) → q < 17
      by true here h rest = let same = eqb-true q s.number here in let top = (All-head IsStation s ss all).number.1 in
          omega (arith, same, top)
      by false here h rest = rest h

  few : (ss : List (Station D)) → All IsStation ss → are_distinct (numbers_of ss) ≡ true → length (0 ∷ numbers_of ss) ≤ 17
  few ss all own =
      length-le_from_distinct_below (0 ∷ numbers_of ss) 17
      (IsDistinct-cons eqb 0 (numbers_of ss) (none_zero ss all) (distinct (numbers_of ss) own)) below
    where
      below : (q : ℕ) → list_any (eqb q) (0 ∷ numbers_of ss) ≡ true → q < 17
      below q h = by (eqb q 0) refl h
        where
          by : (b : Bool) → eqb q 0 ≡ b → (b || list_any (eqb q) (numbers_of ss)) ≡ true → q < 17
          by true here h = let same = eqb-true q 0 here in omega (arith, same)
          by false here h = below_17 ss all q h

  as_many : (ss : List (Station D)) → length (numbers_of ss) ≡ length ss
  as_many ss = grind (arith, common_steps)

  -- numbers in 1..=16 that differ are at most 16
  pub few_stations : (ss : List (Station D)) → All IsStation ss → are_distinct (numbers_of ss) ≡ true → length ss ≤ 16
  few_stations ss all own = let f = few ss all own in let m = as_many ss in omega (arith, f, m)
