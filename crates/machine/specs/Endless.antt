-- The fact that there were too many rows to count, which a function concludes from how many it has read.
use Rattle.std.specs.Prelude.{◌≤◌, ◌-◌, ◌^◌, ℕ}

pub IsEndless : Type 0
IsEndless = Unit {0}

pub endless_at : (rows : ℕ) → 2 ^ 64 - 1 ≤ rows → IsEndless
unfolding IsEndless
endless_at rows is = tt
