-- The texts that calls write into a caller's array.
use Rattle.std.specs.Prelude.{ℕ, ◌+◌, List, ◌∷◌, ◌++◌, length, drop, nat_lt, if◌then◌else◌}

-- the array with this text and a zero at its front, if it has room for both; otherwise as it was
abbrev pub written : List ℕ → List ℕ → List ℕ
written text before = if nat_lt (length text) (length before) then text ++ 0 ∷ drop (length text + 1) before else before
