-- The number that digits denote, computed from the number of all but the last digit.
use Rattle.std.proofs.Common.{◌≡◌, ℕ, zero, suc, ◌+◌, ◌-◌, ◌*◌, ◌^◌, ◌<◌, ◌≤◌, Bool, true, false, List, [], ◌∷◌, ◌++◌, length}
use Rattle.std.proofs.{Common.{length-append, refl, arith}, Math.{Nat.{add-suc, add-zero, pow-suc}, Dec.leb-suc-suc}, lemmas.Bool.le-leb}
use Rattle.std.specs.{Prelude.{◌&&◌, nat_le}, Char.{digit_value, is_ascii_digit}, List.IsLastAndRest, Str.all_ascii_digits}
use Rattle.{std.proofs.lemmas.Int.Digits.digits_value_push, device_rows.specs.Record.{is_numeral, numeral}}

pub digits-push : (front : List ℕ) (last : ℕ) → all_ascii_digits (front ++ last ∷ []) ≡ (all_ascii_digits front && is_ascii_digit last)
digits-push [] last = by (is_ascii_digit last)
  where
    by : (b : Bool) → (b && true) ≡ b
    by true = refl
    by false = refl
digits-push (c ∷ front) last = rw (digits-push front last) (by (is_ascii_digit c))
  where
    by : (b : Bool) → (b && (all_ascii_digits front && is_ascii_digit last)) ≡ ((b && all_ascii_digits front) && is_ascii_digit last)
    by true = refl
    by false = refl

plus-one : (n : ℕ) → nat_le (n + 1) 20 ≡ nat_le n 19
plus-one n =
    let same : n + 1 ≡ suc n = omega arith in
    rw same (leb-suc-suc n 19)

-- a field is a numeral if all but its last byte are at most nineteen digits, and the last is a digit
pub is_numeral-push : (field front : List ℕ) (last : ℕ) → IsLastAndRest field last front
    → is_numeral field ≡ (nat_le (length front) 19 && (all_ascii_digits front && is_ascii_digit last))
is_numeral-push field front last h = rw (h.0, length-append front (last ∷ []), digits-push front last) (by (length front))
  where
    by : (n : ℕ) → (nat_le 1 (n + 1) && (nat_le (n + 1) 20 && (all_ascii_digits front && is_ascii_digit last)))
        ≡ (nat_le n 19 && (all_ascii_digits front && is_ascii_digit last))
    by n = rw (le-leb 1 (n + 1) (omega arith), plus-one n) refl

pub numeral-push : (field front : List ℕ) (last : ℕ) → IsLastAndRest field last front
    → numeral field ≡ numeral front * 10 + digit_value last
numeral-push field front last h = rw h.0 (digits_value_push 10 front last)

pub pow-grows : (n k : ℕ) → 10 ^ n ≤ 10 ^ (n + k)
pow-grows n zero = rw (add-zero n) (omega arith)
pow-grows n (suc k) =
    let more = pow-grows n k in
    rw (add-suc n k, pow-suc 10 (n + k)) (omega (arith, more))

-- ten times a number of fewer than nineteen digits, plus a byte, fits into 64 bits
pub fits : (n count byte : ℕ) → count < 19 → n < 10 ^ count → byte < 256 → n * 10 + byte < 2 ^ 64
fits n count byte few small d =
    let grows = pow-grows count (18 - count) in
    let most : count + (18 - count) ≡ 18 = omega arith in
    let below = rw most at grows in
    omega (arith, below, small, d)

-- one more digit
pub small-push : (n count digit : ℕ) → n < 10 ^ count → digit ≤ 9 → n * 10 + digit < 10 ^ (count + 1)
small-push n count digit small d =
    let next : count + 1 ≡ suc count = omega arith in
    rw (next, pow-suc 10 count) (omega (arith, small, d))
