-- If a list has as many distinct numbers as there are numbers from 0 to the last, it has all of them.
use Rattle.std.proofs.Common.{◌≡◌, ℕ, suc, ◌+◌, ◌<◌, ◌≤◌, ◌||◌, List, [], ◌∷◌, length, slice_get, Some, Bool, true, false, eqb, refl, sym}
use Rattle.std.{proofs.Common.{ap, ◌∙◌, arith, true≢false}, specs.List.{AllByRecursion, IsDistinct, list_any}}
use Rattle.std.proofs.lemmas.{Bool.{eqb-true, or_parts}, Map.Steps.length-le_from_distinct_below}
use Rattle.napi_word.specs.{declared.table.Pass.Pass, Knowledge.view_number, Passes.view_of}

abbrev pub numbers_of : List Pass → List ℕ
numbers_of [] = []
numbers_of (p ∷ ps) = view_number (view_of p) ∷ numbers_of ps

pub numbers_length : (ps : List Pass) → length (numbers_of ps) ≡ length ps
numbers_length [] = refl
numbers_length (p ∷ ps) = ap suc (numbers_length ps)

absent : (c : ℕ) (xs : List ℕ) → list_any (eqb c) xs ≡ false → AllByRecursion (λ y. eqb c y ≡ false) xs
absent c [] e = tt
absent c (x ∷ xs) e = let t = or_parts (eqb c x) (list_any (eqb c) xs) e in (t.0, absent c xs t.1)

pub find_number : (c : ℕ) (ps : List Pass) → list_any (eqb c) (numbers_of ps) ≡ true
    → (k : ℕ) × (p : Pass) × (slice_get ps k ≡ Some p) × (view_number (view_of p) ≡ c)
find_number c [] e = absurd (true≢false (sym e))
find_number c (p ∷ ps) e = by (eqb c (view_number (view_of p))) refl (λ h. find_number c ps h)
  where
    by : (b : Bool) → eqb c (view_number (view_of p)) ≡ b
        → (list_any (eqb c) (numbers_of ps) ≡ true → (k : ℕ) × (q : Pass) × (slice_get ps k ≡ Some q) × (view_number (view_of q) ≡ c))
        → (k : ℕ) × (q : Pass) × (slice_get (p ∷ ps) k ≡ Some q) × (view_number (view_of q) ≡ c)
    by true is later = (0, p, refl, sym (eqb-true c (view_number (view_of p)) is))
    by false is later = let r = later (ap (λ (b : Bool). b || list_any (eqb c) (numbers_of ps)) (sym is) ∙ e) in (suc r.0, r.1, r.2, r.3)

pub every_number : (last c : ℕ) (xs : List ℕ) → IsDistinct eqb xs → ((q : ℕ) → list_any (eqb q) xs ≡ true → q ≤ last) → last + 1 ≤ length xs
    → c ≤ last → list_any (eqb c) xs ≡ true
unfolding IsDistinct
every_number last c xs distinct below count low = by (list_any (eqb c) xs) refl
  where
    within : (q : ℕ) (b : Bool) → eqb q c ≡ b → list_any (eqb q) (c ∷ xs) ≡ true → q < last + 1
    within q true is e = let same = eqb-true q c is in omega (arith, same, low)
    within q false is e = let few = below q (ap (λ (b : Bool). b || list_any (eqb q) xs) (sym is) ∙ e) in omega (arith, few)

    by : (b : Bool) → list_any (eqb c) xs ≡ b → list_any (eqb c) xs ≡ true
    by true e = e
    by false e =
        let many = length-le_from_distinct_below (c ∷ xs) (last + 1) (absent c xs e, distinct) (λ q h. within q (eqb q c) refl h) in
        absurd (omega (arith, many, count))

-- a list of distinct numbers up to the last has at most that many
pub no_more : (last : ℕ) (xs : List ℕ) → IsDistinct eqb xs → ((q : ℕ) → list_any (eqb q) xs ≡ true → q ≤ last) → length xs ≤ last + 1
no_more last xs distinct below = length-le_from_distinct_below xs (last + 1) distinct (λ q h. let few = below q h in omega (arith, few))
