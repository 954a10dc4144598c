-- Sums of sizes.
use Rattle.std.proofs.{Common.{◌≡◌, ℕ, ◌+◌, List, [], ◌∷◌, take, drop, sum, slice_get, Some, ap, ◌∙◌, arith}, Math.Seq.take-add}
use Rattle.std.proofs.lemmas.List.Sums.{sum_by-take-drop, sum_by-append, sum_by-cons}

-- the sum is the first size plus the sum of the rest
pub sum_front : (l : List ℕ) (x : ℕ) → Some x ≡ slice_get l 0 → x + sum (drop 1 l) ≡ sum l
sum_front [] x e = cc
sum_front (y ∷ ys) x e = let q : x ≡ y = cc in omega (arith, sum_by-cons (λ (z : ℕ). z) y ys)

-- the sum is that of the first n sizes plus that of the rest
pub sum_parts : (n : ℕ) (l : List ℕ) → sum (take n l) + sum (drop n l) ≡ sum l
sum_parts n l = sum_by-take-drop (λ x. x) l n

-- the sum of the first d + n sizes is that of the first d plus that of the next n
pub sum-take-add : (d n : ℕ) (l : List ℕ) → sum (take (d + n) l) ≡ sum (take d l) + sum (take n (drop d l))
sum-take-add d n l = ap sum (take-add d n l) ∙ sum_by-append (λ x. x) (take d l) (take n (drop d l))

pub ruleset sums = (sum_front, sum_parts)
