-- Each device has a transmit side: what preserves this.
use Rattle.std.proofs.Common.{◌≡◌, ◌∙◌, ℕ, zero, suc, ◌<◌, Option, Some, None, [], ◌∷◌, length, slice_set, ap, refl, sym, arith}
use Rattle.std.specs.Prelude.{is_some}
use Rattle.device_bench.specs.{Transmits.Transmits, Bench.{BenchDevices, HaveSides, all_settled, attached}}
use Rattle.device_places.specs.Places.{DeviceTable, at}

module _ {A : Type 0} where
  -- if an entry is replaced by a value, a number has one as before
  pub some-set : (xs : DeviceTable A) (n m : ℕ) (o : Option A) → is_some o ≡ is_some (at n xs)
      → is_some (at m (slice_set xs n o)) ≡ is_some (at m xs)
  some-set (x ∷ xs) zero zero o e = e
  some-set (x ∷ xs) (suc n) (suc m) o e = some-set xs n m o e
  some-set xs n m o e = refl

  -- an entry is replaced by what it contains
  pub set-back : (xs : DeviceTable A) (n : ℕ) (o : Option A) → n < length xs → at n xs ≡ o → slice_set xs n o ≡ xs
  set-back [] n o below e = absurd (omega (arith, below))
  set-back (x ∷ xs) zero o below e = ap (λ (y : Option A). y ∷ xs) (sym e)
  set-back (x ∷ xs) (suc n) o below e = ap (λ (l : DeviceTable A). x ∷ l) (set-back xs n o (omega (arith, below)) e)

  -- a device is changed in its entry, or its entry is written back unchanged
  pub sides-set : (xs : DeviceTable A) (all : Transmits) (n : ℕ) (o : Option A) → is_some o ≡ is_some (at n xs) → HaveSides xs all
      → HaveSides (slice_set xs n o) all
  sides-set xs all n o e same m = same m ∙ sym (some-set xs n m o e)

  -- so there are as many devices as transmit sides
  pub sides-attached : (xs : DeviceTable A) (all : Transmits) → length all ≡ length xs → HaveSides xs all → attached xs ≡ attached all
  sides-attached [] [] long same = refl
  sides-attached (None ∷ xs) (None ∷ all) long same = sides-attached xs all (omega (arith, long)) (λ n. same (suc n))
  sides-attached (Some d ∷ xs) (Some t ∷ all) long same = ap suc (sides-attached xs all (omega (arith, long)) (λ n. same (suc n)))
  sides-attached (None ∷ xs) (Some t ∷ all) long same = cc (same 0)
  sides-attached (Some d ∷ xs) (None ∷ all) long same = cc (same 0)
  sides-attached xs all long same = absurd (omega (arith, long))

some-settled : (xs : BenchDevices) (m : ℕ) → is_some (at m (all_settled xs)) ≡ is_some (at m xs)
some-settled (None ∷ xs) zero = refl
some-settled (x ∷ xs) (suc m) = some-settled xs m
some-settled xs m = refl

pub sides-settled : (xs : BenchDevices) (all : Transmits) → HaveSides xs all → HaveSides (all_settled xs) all
sides-settled xs all same m = same m ∙ sym (some-settled xs m)
