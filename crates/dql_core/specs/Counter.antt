-- 32-bit counters that wrap.
use Rattle.std.specs.Prelude.{◌≡◌, ℕ, ◌+◌, ◌-◌, ◌%◌, ◌<◌}

-- the counter n is the whole number x modulo 2 ^ 32
abbrev pub IsWrapped : ℕ → ℕ → Type 0
IsWrapped n x = n ≡ x % 4294967296

-- x and y differ by less than 2 ^ 31, so a signed 32-bit difference is the true one
abbrev pub AreNear : ℕ → ℕ → Type 0
AreNear x y = (x < y + 2147483648) × (y < x + 2147483648)

-- how far the counter a is ahead of the counter b
abbrev pub distance_of : ℕ → ℕ → ℕ
distance_of a b = (a + (4294967296 - b)) % 4294967296
