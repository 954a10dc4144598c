-- What a worker asks its gate.
use Rattle.std.specs.Prelude.{ℕ, zero, suc, List, [], ◌∷◌, ◌++◌}
use Rattle.poll_engine.specs.Acts.{after_acts}

-- the questions before the first n acts: each act's exactly once, in order, and before the device is asked for the act
abbrev pub all_questions : {D : Type 0} → (D → ℕ → D) → ℕ → D → ℕ → List (ℕ × ℕ × D)
all_questions after number d zero = []
all_questions after number d (suc n) = all_questions after number d n ++ (number, n, after_acts after d n) ∷ []
