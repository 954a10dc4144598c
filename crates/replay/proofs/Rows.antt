-- Filtering and searching a prefix of a list, and one more element.
use Rattle.std.proofs.{lemmas.{Grind.common_steps, List.{take_more, Elements.filter-append, Folds.find-append}}, Common.{◌≡◌, ◌∙◌, ℕ, zero}}
use Rattle.std.proofs.Common.{suc, ◌+◌, ◌<◌, ◌≤◌, Bool, true, false, Some, None, List, [], ◌∷◌, ◌++◌, length, take, get_or, ap, refl, arith}
use Rattle.std.specs.{Prelude.{◌&&◌, filter, if◌then◌else◌}, List.{find, range_with_len}}

pub filter-one : {X : Type 0} (p : X → Bool) (x : X) (b : Bool) → p x ≡ b → filter p (x ∷ []) ≡ (if b then x ∷ [] else [])
filter-one p x b e = grind (arith, common_steps)

pub find-more : {X : Type 0} (p : X → Bool) (xs : List X) (i : ℕ) (d : X) → i < length xs → find p (take i xs) ≡ None
    → p (get_or xs i d) ≡ false → find p (take (i + 1) xs) ≡ None
find-more p xs i d below none e =
    ap (λ l. find p l) (take_more xs i d below) ∙ find-append p (take i xs) (get_or xs i d ∷ []) ∙ rw (none, e) refl

pub find-here : {X : Type 0} (p : X → Bool) (xs : List X) (i : ℕ) (d : X) → i < length xs → find p (take i xs) ≡ None
    → p (get_or xs i d) ≡ true → find p xs ≡ Some (get_or xs i d)
find-here p [] i d below none e = absurd (omega (arith, below))
find-here p (x ∷ xs) zero d below none e = rw e refl
find-here p (x ∷ xs) (suc i) d below none e = grind (arith, common_steps, find-here p xs i d (omega (arith, below)))

pub range-more : (a n : ℕ) → range_with_len a (n + 1) ≡ range_with_len a n ++ (a + n) ∷ []
range-more a zero = let e : a + zero ≡ a = omega arith in rw e refl
range-more a (suc n) = grind (arith, common_steps, range-more (a + 1) n)

pub filter-long : {X : Type 0} (p : X → Bool) (xs : List X) → length (filter p xs) ≤ length xs
filter-long p [] = omega arith
filter-long p (x ∷ xs) = grind (arith, common_steps, filter-long p xs)

-- a search for a stronger property finds the same element in the filtered list
pub find-among : {X : Type 0} (p q : X → Bool) (xs : List X) → find (λ x. p x && q x) (filter p xs) ≡ find (λ x. p x && q x) xs
find-among p q [] = refl
find-among {X = X} p q (x ∷ xs) = grind (arith, common_steps, find-among p q xs)
