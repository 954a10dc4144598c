-- What a run asks its gate.
use Rattle.std.specs.Prelude.{ℕ, ◌<◌, Bool, true}

-- the poller with this number asked the gate when it started, and the gate allowed it
abbrev pub IsAsked : {G : Type 0} → (G → ℕ → ℕ → Bool → Type 0) → G → ℕ → Type 0
IsAsked answers gate by = answers gate by 0 true

-- the worker with this number asked the gate before each of its first n acts, and the gate allowed it each time
abbrev pub WasLet : (ℕ → ℕ → Bool → Type 0) → ℕ → ℕ → Type 0
WasLet answers number acts = (k : ℕ) → k < acts → answers number k true
