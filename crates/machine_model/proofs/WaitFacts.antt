-- Buckets of waits, and how a wait is counted in them.
use Rattle.std.proofs.{Common.{◌≡◌, ℕ, ◌+◌, ◌-◌, ◌*◌, ◌/◌, ◌%◌, ◌^◌, ◌<◌, ◌≤◌, arith}, Math.Nat.{div-lt_iff_lt-mul, mod-eq_of_lt}}
use Rattle.std.proofs.{Math.Nat.{one-le-pow, pow-le-pow_right, mul-le-mul}, lemmas.Nat.{leading_length, pow-add}}
use Rattle.std.specs.Int.Count.{count_leading_zeros}

-- a wait is below 1024 times a power of two, with an exponent of at most 54: so the number of its bucket is in range
pub bucket-below : (wait rest : ℕ) → wait < 2 ^ 64 → rest ≡ 54 - count_leading_zeros 64 wait → 512 * rest + wait / 2 ^ rest < 28672
bucket-below wait rest fits is =
    let digits = leading_length 64 wait fits in
    let most : digits.0 ≤ 10 + rest = omega (arith, is, digits.1) in
    let power : 2 ^ digits.0 ≤ 2 ^ (10 + rest) = pow-le-pow_right {n = 2} (omega arith) most in
    let split : 2 ^ (10 + rest) ≡ 1024 * 2 ^ rest = pow-add 2 10 rest in
    let below : wait / 2 ^ rest < 1024 =
    (div-lt_iff_lt-mul {k = 2 ^ rest} {x = wait} {y = 1024} (omega (arith, one-le-pow rest 2 (omega arith)))).1
    (omega (arith, power, split, digits.2)) in
    omega (arith, is, below)

-- the least wait of a bucket fits into 64 bits
pub least-fits : (first rest : ℕ) → first < 1024 → rest ≤ 54 → first * 2 ^ rest % 18446744073709551616 ≡ first * 2 ^ rest
least-fits first rest few most =
    let power : 2 ^ rest ≤ 2 ^ 54 = pow-le-pow_right {n = 2} (omega arith) most in
    let head : first ≤ 1023 = omega (arith, few) in
    let whole : first * 2 ^ rest ≤ 1023 * 2 ^ 54 = mul-le-mul head power in
    mod-eq_of_lt (omega (arith, whole))
