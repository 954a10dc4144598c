-- How a change of one device preserves the invariant of all devices of a bench.
use Rattle.std.proofs.Common.{◌≡◌, ◌≢◌, ◌∙◌, ℕ, zero, suc, ◌+◌, ◌<◌, ◌≤◌, Bool, true, false, Option, Some, None, [], ◌∷◌, length, ◌++◌}
use Rattle.std.{proofs.Common.{get_or, length-set, replicate, slice_set, take, drop, ap, refl, sym, arith}, specs.Prelude.{◌==◌, nat_lt}}
use Rattle.std.proofs.lemmas.{Bool.{eqb-true, eqb-false, ltb-true, ltb-false}, List.{append-nil, drop_all, get_or-set_other, take_all}}
use Rattle.device_bench.specs.{Bench.{all_settled, settled_at}, Device.{is_pending, new_device, settled}}
use Rattle.device_bench.specs.{DeviceView.DeviceView, Kept.{IsKept, is_pending_at, is_sound, is_sound_at}}
use Rattle.device_bench.proofs.{DeviceFacts.settled-same, Waiting.{waiting-empty, waiting-most}}
use Rattle.device_places.specs.Places.{DeviceTable, at, changed, changed_from, empty}
use Rattle.device_places.proofs.PlaceFacts.{at-index, at-set, below-some}

-- a call that finds a device at a number finds it in the table's entry of that number
pub here-at : (xs : DeviceTable DeviceView) {o : Option DeviceView} {d : DeviceView} (n : ℕ) → length xs ≡ 17 → n < 17
    → o ≡ get_or xs n o → o ≡ Some d → at n xs ≡ Some d
here-at xs {o = o} n places below read is = at-index xs n o (omega (arith, below, places)) (sym read) ∙ is

pub sound-at : {u : Bool} {xs : DeviceTable DeviceView} {d : DeviceView} (n : ℕ) → IsKept u xs → at n xs ≡ Some d → is_sound d ≡ true
sound-at n k here = ap is_sound_at (sym here) ∙ k.sound n

pub pending-off : {u : Bool} {xs : DeviceTable DeviceView} {d : DeviceView} (n : ℕ) → IsKept u xs → at n xs ≡ Some d → u ≡ false
    → is_pending d ≡ false
pending-off n k here off = ap is_pending_at (sym here) ∙ k.settled off n

-- one entry is replaced by a sound device, whose disable is pending only if the bench allows pending disables
pub kept-set : (u v : Bool) (xs : DeviceTable DeviceView) (n : ℕ) (e : DeviceView) → IsKept u xs → n < length xs → is_sound e ≡ true
    → (v ≡ false → u ≡ false) → (v ≡ false → is_pending e ≡ false)
    → IsKept v (slice_set xs n (Some e))
kept-set u v xs n e k below sound both pending = record {
  places = length-set xs n (Some e) ∙ k.places;
  sound = λ m. at-set (λ o. is_sound_at o ≡ true) xs n m (Some e) below sound (k.sound m);
  settled = λ off m. at-set (λ o. is_pending_at o ≡ false) xs n m (Some e) below (pending off) (k.settled (both off) m);
  few = waiting-most _ (length-set xs n (Some e) ∙ k.places);
}

none-at : (count n : ℕ) → at {A = DeviceView} n (replicate count None) ≡ None
none-at (suc count) (suc n) = none-at count n
none-at count n = refl

-- no devices
pub kept-empty : IsKept false empty
kept-empty = record {
  places = refl;
  sound = λ n. ap is_sound_at (none-at 17 n);
  settled = λ off n. ap is_pending_at (none-at 17 n);
  few = omega (arith, waiting-empty);
}

-- a new device is sound, and no disable of it is pending
pub kept-opened : (u : Bool) (xs : DeviceTable DeviceView) (n capacity : ℕ) → IsKept u xs → n < length xs
    → IsKept u (slice_set xs n (Some (new_device capacity)))
kept-opened u xs n capacity k below = kept-set u u xs n (new_device capacity) k below refl (λ off. off) (λ off. refl)

-- a change of one device that preserves soundness, and whether a disable is pending
pub kept-changed : {u : Bool} {xs : DeviceTable DeviceView} {d e f : DeviceView} (n : ℕ) → IsKept u xs → at n xs ≡ Some d → e ≡ f
    → is_sound f ≡ true → is_pending f ≡ is_pending d → IsKept u (slice_set xs n (Some e))
kept-changed {u} {xs} {d} {e} n k here is sound pending =
    kept-set u u xs n e k (below-some xs n d here) (ap is_sound is ∙ sound) (λ off. off)
    (λ off. ap is_pending is ∙ pending ∙ ap is_pending_at (sym here) ∙ k.settled off n)

-- ---- trying the pending disables ("settling")

-- if no disable is pending, settling changes nothing
all-settled-same : (xs : DeviceTable DeviceView) → ((n : ℕ) → is_pending_at (at n xs) ≡ false) → all_settled xs ≡ xs
all-settled-same [] off = refl
all-settled-same (None ∷ xs) off = ap (λ (l : DeviceTable DeviceView). None ∷ l) (all-settled-same xs (λ n. off (suc n)))
all-settled-same (Some d ∷ xs) off = rw (settled-same d (off 0), all-settled-same xs (λ n. off (suc n))) refl

pub settled-off : (u : Bool) (xs : DeviceTable DeviceView) → IsKept u xs → u ≡ false → all_settled xs ≡ xs
settled-off u xs k off = all-settled-same xs (k.settled off)

-- the devices of the first entries were settled, the others not yet
pub settled_to : ℕ → DeviceTable DeviceView → DeviceTable DeviceView
settled_to n xs = all_settled (take n xs) ++ drop n xs

changed-cons : (f : DeviceView → DeviceView) (n : ℕ) (x : Option DeviceView) (xs : DeviceTable DeviceView)
    → changed f (suc n) (x ∷ xs) ≡ x ∷ changed f n xs
changed-cons f n x xs = by (at n xs)
  where
    by : (o : Option DeviceView) → changed_from f (suc n) o (x ∷ xs) ≡ x ∷ changed_from f n o xs
    by None = refl
    by (Some d) = refl

settled-next : (n : ℕ) (xs : DeviceTable DeviceView) → n < length xs → changed settled n (settled_to n xs) ≡ settled_to (suc n) xs
unfolding settled_to
settled-next n [] below = absurd (omega (arith, below))
settled-next zero (None ∷ xs) below = refl
settled-next zero (Some d ∷ xs) below = refl
settled-next (suc n) (x ∷ xs) below =
    changed-cons settled n (settled_at x) (settled_to n xs)
    ∙ ap (λ (l : DeviceTable DeviceView). settled_at x ∷ l) (settled-next n xs (omega (arith, below)))

pub settled-more : (n : ℕ) (xs ys : DeviceTable DeviceView) → n < length xs → ys ≡ settled_to n xs
    → changed settled n ys ≡ settled_to (n + 1) xs
settled-more n xs ys below e =
    let next : n + 1 ≡ suc n = omega arith in
    rw (e, next) (settled-next n xs below)

pub settled-none : (xs : DeviceTable DeviceView) → settled_to 0 xs ≡ xs
unfolding settled_to
settled-none xs = refl

pub settled-all : (n : ℕ) (xs : DeviceTable DeviceView) → length xs ≤ n → settled_to n xs ≡ all_settled xs
unfolding settled_to
settled-all n xs most = rw (take_all n xs most, drop_all n xs most) (simp append-nil)

-- a change of one device doesn't change the others
pub at-other : (f : DeviceView → DeviceView) (n m : ℕ) (xs : DeviceTable DeviceView) → m ≢ n → at m (changed f n xs) ≡ at m xs
at-other f n m xs apart = by (at n xs)
  where
    by : (o : Option DeviceView) → at m (changed_from f n o xs) ≡ at m xs
    by None = refl
    by (Some d) = get_or-set_other xs n m (Some (f d)) None apart

-- a number beyond the end of the table has no device
pub at-beyond : (n : ℕ) (xs : DeviceTable DeviceView) → length xs ≤ n → at n xs ≡ None
at-beyond n [] h = refl
at-beyond zero (x ∷ xs) h = absurd (omega (arith, h))
at-beyond (suc n) (x ∷ xs) h = at-beyond n xs (omega (arith, h))

-- if no disable of the first entries is pending, and the next one isn't either, the same holds for one more entry
pub up-to : (n m : ℕ) (xs ys : DeviceTable DeviceView) → ys ≡ changed settled n xs → is_pending_at (at n ys) ≡ false
    → ((i : ℕ) → i < n → is_pending_at (at i xs) ≡ false) → m < n + 1 → is_pending_at (at m ys) ≡ false
up-to n m xs ys e here before below = by (m == n) refl
  where
    by : (b : Bool) → (m == n) ≡ b → is_pending_at (at m ys) ≡ false
    by true same = ap (λ i. is_pending_at (at i ys)) (eqb-true m n same) ∙ here
    by false other =
        let apart : m ≢ n = eqb-false m n other in
        ap (λ (l : DeviceTable DeviceView). is_pending_at (at m l)) e ∙ ap is_pending_at (at-other settled n m xs apart)
        ∙ before m (omega (arith, below, apart))

-- if no entry of the table has a pending disable, no number has one
pub beyond : (n : ℕ) (xs : DeviceTable DeviceView) → length xs ≤ n → ((i : ℕ) → i < n → is_pending_at (at i xs) ≡ false) → (m : ℕ)
    → is_pending_at (at m xs) ≡ false
beyond n xs most off m = by (nat_lt m n) refl
  where
    by : (b : Bool) → nat_lt m n ≡ b → is_pending_at (at m xs) ≡ false
    by true e = off m (ltb-true m n e)
    by false e = ap is_pending_at (at-beyond m xs (omega (arith, most, ltb-false m n e)))
