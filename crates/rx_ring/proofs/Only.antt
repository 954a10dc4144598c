-- A list with a single element, whose element is replaced.
use Rattle.std.proofs.Common.{◌≡◌, suc, List, [], ◌∷◌, length, slice_set, refl, arith}

pub set_only : {A : Type 0} → (xs : List A) (x : A) → length xs ≡ 1 → slice_set xs 0 x ≡ x ∷ []
set_only [] x h = let bad : 0 ≡ 1 = h in cc bad
set_only (y ∷ []) x h = refl
set_only (y ∷ z ∷ ys) x h = let bad : suc (suc (length ys)) ≡ 1 = h in absurd (omega arith)
