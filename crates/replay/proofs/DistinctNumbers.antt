-- Stations by increasing number.
use Rattle.std.proofs.Common.{◌+◌, ◌<◌, Bool, true, false, List, [], ◌∷◌, ap, refl, arith, ◌≡◌, ◌∙◌, ℕ, zero, suc}
use Rattle.std.proofs.lemmas.Grind.{common_steps}
use Rattle.std.specs.{Prelude.{◌==◌, filter}, List.{AllZip, list_any, range_with_len}}
use Rattle.poll_engine.specs.{declared.station.Station.Station, Numbers.{are_distinct, have_distinct_numbers, numbers_of}}

-- none of the numbers from this one on is lower
none-below : (p : ℕ → Bool) (n a k : ℕ) → k < a → list_any (λ m. m == k) (filter p (range_with_len a n)) ≡ false
none-below p zero a k below = refl
none-below p (suc n) a k below = grind (arith, common_steps, none-below p n (a + 1) k (omega (arith, below)))

rising-distinct : (p : ℕ → Bool) (n a : ℕ) → are_distinct (filter p (range_with_len a n)) ≡ true
rising-distinct p zero a = refl
rising-distinct p (suc n) a = grind (arith, common_steps, none-below, rising-distinct p n (a + 1))

module _ {D : Type 0} (Of : ℕ → Station D → Type 0) (numbered : (n : ℕ) (s : Station D) → Of n s → s.number ≡ n) where
  same-numbers : (ns : List ℕ) (ss : List (Station D)) → AllZip Of ns ss → numbers_of ss ≡ ns
  same-numbers [] [] h = refl
  same-numbers [] (s ∷ ss) h = absurd h
  same-numbers (n ∷ ns) [] h = absurd h
  same-numbers (n ∷ ns) (s ∷ ss) h = rw (numbered n s h.0, same-numbers ns ss h.1) refl

  -- the stations have some of the numbers from this one on, in increasing order
  pub rising-numbers : (p : ℕ → Bool) (n a : ℕ) (ss : List (Station D)) → AllZip Of (filter p (range_with_len a n)) ss
      → have_distinct_numbers ss ≡ true
  rising-numbers p n a ss h = ap (λ ns. are_distinct ns) (same-numbers (filter p (range_with_len a n)) ss h) ∙ rising-distinct p n a
