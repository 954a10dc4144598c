-- The entries of the device table.
use Rattle.std.proofs.Common.{◌≡◌, ℕ, zero, suc, ◌<◌, Bool, true, false, Option, Some, None, [], ◌∷◌, length, get_or, slice_set, refl}
use Rattle.std.{proofs.{Common.arith, lemmas.{Bool.{eqb-true, eqb-false}, Grind.get_or-set_at}}, specs.Prelude.{◌==◌, is_some}}
use Rattle.std.proofs.lemmas.List.{get_or-set_other}
use Rattle.device_places.specs.Places.{DeviceTable, at}

pub below-some : {A : Type 0} → (xs : DeviceTable A) (i : ℕ) (a : A) → at i xs ≡ Some a → i < length xs
below-some [] i a e = cc e
below-some (x ∷ xs) zero a e = omega arith
below-some (x ∷ xs) (suc i) a e = omega (arith, below-some xs i a e)

-- the entry of a number, after the entry of this or another number was replaced
pub at-set : {A : Type 0} → (P : Option A → Type 0) → (xs : DeviceTable A) (i j : ℕ) (y : Option A) → i < length xs → P y → P (at j xs)
    → P (at j (slice_set xs i y))
at-set P xs i j y below new old = by (j == i) refl
  where
    by : (b : Bool) → (j == i) ≡ b → P (at j (slice_set xs i y))
    by true e = rw (get_or-set_at xs i j y None (eqb-true j i e) below) new
    by false e = rw (get_or-set_other xs i j y None (eqb-false j i e)) old

-- the entry of a number that is within the table
pub at-index : {A : Type 0} → (xs : DeviceTable A) (i : ℕ) (x : Option A) → i < length xs → get_or xs i x ≡ x → at i xs ≡ x
at-index [] i x below e = absurd (omega (arith, below))
at-index (y ∷ xs) zero x below e = e
at-index (y ∷ xs) (suc i) x below e = at-index xs i x (omega (arith, below)) e

pub none-of : {A : Type 0} → (o : Option A) → is_some o ≡ false → o ≡ None
none-of None e = refl
none-of (Some a) e = cc e
