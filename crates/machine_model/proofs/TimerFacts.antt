-- The timer that expires first, found entry by entry.
use Rattle.std.proofs.{Common.{◌≡◌, ◌∙◌, ◌⊎◌, inl, inr, ℕ, ◌+◌, ◌-◌, ◌*◌, ◌%◌, ◌^◌, ◌<◌, ◌≤◌, zero, suc, Bool, true, false, Option, Some}}
use Rattle.std.proofs.{Common.{None, length, drop, get_or, refl, ap, sym, arith, w64}, Math.Seq.drop-cons, lemmas.Bool.cases_eq}
use Rattle.std.proofs.lemmas.{Grind.common_steps, List.drop_all, Nat.{and_le_l, Bits.{bit_at-trailing_zeros, bit_at-zero}}}
use Rattle.std.{proofs.lemmas.Nat.Bits.{bit_at_clear_other, bit_at_clear_same}, specs.Int.{bit_at, bit_not, trailing_zeros}}
use Rattle.std.specs.Prelude.{bit_and, nat_lt}
use Rattle.device_places.specs.Places.{at}
use Rattle.machine_model.{proofs.PendingFacts.{clear-at, inside}, specs.{Device.QueueView, Devices.{QueueViews, soonest_from, sooner}}}
use Rattle.machine_model.specs.{Devices.timer_at, Shown.{IsMask, has_timer}, declared.devices.Timer.Timer}

sooner-some : (x y z : Timer) → sooner (Some x) (sooner (Some y) (Some z)) ≡ sooner (sooner (Some x) (Some y)) (Some z)
sooner-some x y z = grind (arith, common_steps)

sooner-assoc : (a b c : Option Timer) → sooner a (sooner b c) ≡ sooner (sooner a b) c
sooner-assoc a b c = grind (arith, common_steps, sooner-some)

pub sooner-none : (a : Option Timer) → sooner a None ≡ a
sooner-none None = refl
sooner-none (Some x) = refl

pub soonest-next : (places : QueueViews) (number : ℕ) (best : Option Timer) → number < length places
    → sooner best (soonest_from number (drop number places))
    ≡ sooner (sooner best (timer_at number (get_or places number None))) (soonest_from (number + 1) (drop (number + 1) places))
unfolding soonest_from
soonest-next places number best h1 = grind (arith, common_steps, drop-cons, sooner-assoc)

-- entries without a timer are skipped
skip : (count : ℕ) (places : QueueViews) (k n : ℕ) → n ≡ k + count → n ≤ length places
    → ((j : ℕ) → k ≤ j → j < n → timer_at j (at j places) ≡ None)
    → soonest_from k (drop k places) ≡ soonest_from n (drop n places)
skip zero places k n is most none = ap (λ (m : ℕ). soonest_from m (drop m places)) (let same : k ≡ n = omega (arith, is) in same)
skip (suc count) places k n is most none =
    let below : k < length places = omega (arith, is, most) in
    let first : timer_at k (at k places) ≡ None = none k (omega arith) (omega (arith, is)) in
    soonest-next places k None below
    ∙ (ap (λ (t : Option Timer). sooner t (soonest_from (k + 1) (drop (k + 1) places))) first
    ∙ skip count places (k + 1) n (omega (arith, is)) most (λ j least less. none j (omega (arith, least)) less))

no-timer : (n : ℕ) (o : Option QueueView) → has_timer o ≡ false → timer_at n o ≡ None
no-timer n o h1 = grind (arith, common_steps)

less-than : (a b : ℕ) → nat_lt a b ≡ true → a < b
less-than a b less = grind (arith, common_steps)

at-least : (a b : ℕ) → nat_lt a b ≡ false → b ≤ a
at-least a b least = grind (arith, common_steps)

-- A loop over the bits of a mask: `best` is the first timer of the entries below `from`, and `left` has the bits of the entries
-- from there on.
pub record Walked (places : QueueViews) (timed : ℕ) (best : Option Timer) (left : ℕ) : Type 0 where
  pub from : ℕ
  pub fits : from ≤ length places
  pub rest : soonest_from 0 places ≡ sooner best (soonest_from from (drop from places))
  pub gone : (n : ℕ) → n < from → bit_at left n ≡ 0
  pub same : (n : ℕ) → from ≤ n → n < 64 → bit_at left n ≡ bit_at timed n

pub walk-start : (places : QueueViews) (timed : ℕ) → Walked places timed None timed
walk-start places timed = record {
  from = 0;
  fits = omega arith;
  rest = refl;
  gone = λ n below. absurd (omega (arith, below));
  same = λ n least small. refl;
}

pub walk-next : (places : QueueViews) (timed : ℕ) (best : Option Timer) (left n : ℕ) → IsMask has_timer places timed
    → 0 < left
    → left < 2 ^ 64
    → n ≡ trailing_zeros w64 left
    → Walked places timed best left
    → Walked places timed (sooner best (timer_at n (at n places))) (bit_and left (bit_not w64 (1 * 2 ^ n % 2 ^ 64)))
walk-next places timed best left n mask some fits is was =
    let low = bit_at-trailing_zeros w64 left some fits in
    let small : n < 64 = omega (arith, is, low.0) in
    let set : bit_at left n ≡ 1 = rw is low.1 in
    let least : was.from ≤ n = from-there set in
    let below : n < length places = inside has_timer places timed n refl mask small (sym (was.same n least small) ∙ set) in
    let none : (j : ℕ) → was.from ≤ j → j < n → timer_at j (at j places) ≡ None =
    λ j from less. no-timer j (at j places) (clear-at has_timer places timed j mask (omega (arith, less, small))
    (sym (was.same j from (omega (arith, less, small))) ∙ low.2 j (omega (arith, is, less)))) in
    record {
      from = n + 1;
      fits = omega (arith, below);
      rest =
          was.rest ∙ (ap (λ (t : Option Timer). sooner best t)
          (skip (n - was.from) places was.from n (omega (arith, least)) (omega (arith, below)) none) ∙ soonest-next places n best below);
      gone = λ m less. by m (cases_eq m n) (omega (arith, less));
      same = λ m past in_word.
          bit_at_clear_other w64 left n small m in_word (λ e. omega (arith, e, past)) ∙ was.same m (omega (arith, least, past)) in_word;
    }
  where
    from-there : bit_at left n ≡ 1 → was.from ≤ n
    from-there set = there (nat_lt n was.from) refl
      where
        there : (b : Bool) → nat_lt n was.from ≡ b → was.from ≤ n
        there true less = absurd (let gone = was.gone n (less-than n was.from less) in cc (gone, set))
        there false least = at-least n was.from least

    by : (m : ℕ) → (m ≡ n) ⊎ (m ≡ n → ⊥) → m ≤ n → bit_at (bit_and left (bit_not w64 (1 * 2 ^ n % 2 ^ 64))) m ≡ 0
    by m (inl same) most = rw same (bit_at_clear_same w64 left n (omega (arith, is, (bit_at-trailing_zeros w64 left some fits).0)))
    by m (inr other) most =
        let low = bit_at-trailing_zeros w64 left some fits in
        let less : m < n = omega (arith, most, other) in
        bit_at_clear_other w64 left n (omega (arith, is, low.0)) m (omega (arith, less, is, low.0)) other
        ∙ low.2 m (omega (arith, is, less))

pub walk-end : (places : QueueViews) (timed : ℕ) (best : Option Timer) (left : ℕ) → IsMask has_timer places timed
    → length places ≤ 64
    → left ≡ 0
    → Walked places timed best left
    → best ≡ soonest_from 0 places
unfolding soonest_from
walk-end places timed best left mask few none was =
    let clear : (j : ℕ) → was.from ≤ j → j < length places → timer_at j (at j places) ≡ None =
    λ j from less. no-timer j (at j places) (clear-at has_timer places timed j mask (omega (arith, less, few))
    (sym (was.same j from (omega (arith, less, few))) ∙ (rw none (bit_at-zero j)))) in
    let size = length places in
    let past : soonest_from was.from (drop was.from places) ≡ soonest_from size (drop size places) =
    skip (size - was.from) places was.from size (omega (arith, was.fits)) (omega arith) clear in
    sym (was.rest ∙ (ap (λ (t : Option Timer). sooner best t) (past
    ∙ ap (λ (xs : QueueViews). soonest_from size xs) (drop_all size places (omega arith))) ∙ sooner-none best))

-- clearing the bit of an entry makes the remaining mask smaller
pub walk-less : (left n : ℕ) → 0 < left → left < 2 ^ 64 → n ≡ trailing_zeros w64 left
    → bit_and left (bit_not w64 (1 * 2 ^ n % 2 ^ 64)) < left
walk-less left n some fits is = by (cases_eq after left)
  where
    after : ℕ
    after = bit_and left (bit_not w64 (1 * 2 ^ n % 2 ^ 64))

    low : (trailing_zeros w64 left < 64) × (bit_at left (trailing_zeros w64 left) ≡ 1)
    low = let l = bit_at-trailing_zeros w64 left some fits in (l.0, l.1)

    gone : bit_at after n ≡ 0
    gone = bit_at_clear_same w64 left n (omega (arith, is, low.0))

    by : (after ≡ left) ⊎ (after ≡ left → ⊥) → after < left
    by (inl same) = absurd (let set : bit_at left n ≡ 1 = rw is low.1 in let both = rw same at gone in cc (both, set))
    by (inr other) = omega (arith, other, and_le_l left (bit_not w64 (1 * 2 ^ n % 2 ^ 64)))
