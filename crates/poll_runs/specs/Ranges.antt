-- The ranges of what a caller gives to a poll or a run.
use Rattle.std.specs.Prelude.{ℕ, ◌≤◌}

-- the most packets of one poll (`NAPI_POLL_WEIGHT`)
abbrev pub IsWeight : ℕ → Type 0
IsWeight weight = (1 ≤ weight) × (weight ≤ 64)

-- the packets after which a run is squeezed (`net.core.netdev_budget`)
abbrev pub IsBudget : ℕ → Type 0
IsBudget budget = (1 ≤ budget) × (budget ≤ 65535)

-- the polls after which a run is squeezed
abbrev pub IsWindow : ℕ → Type 0
IsWindow window = (1 ≤ window) × (window ≤ 65535)

-- the most rounds of busy polling
abbrev pub IsRounds : ℕ → Type 0
IsRounds rounds = (1 ≤ rounds) × (rounds ≤ 65535)

-- the most polls by an instance's own thread at a time
abbrev pub IsMost : ℕ → Type 0
IsMost most = (1 ≤ most) × (most ≤ 131072)
