-- How often a list was found empty while batches were taken from it.
use Rattle.std.specs.Prelude.{ℕ, ◌+◌, nat_lt, List, [], ◌∷◌, length, if◌then◌else◌}

-- entries are taken until the list is found empty, which counts once, or until 64 are taken
abbrev pub empties : List ℕ → ℕ
empties taken = if nat_lt (length taken) 64 then 1 else 0

-- the sum over these batches
abbrev pub empties_of : List (List ℕ) → ℕ
empties_of [] = 0
empties_of (batch ∷ more) = empties batch + empties_of more
