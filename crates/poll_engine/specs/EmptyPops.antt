-- How often the poller of a shared list found its queue empty.
use Rattle.std.specs.Prelude.{◌≡◌, ℕ, ◌+◌, ◌-◌, ◌^◌, ◌≤◌, min}
use Rattle.poll_engine.specs.declared.pops.Pops.{Pops}

-- how many pops found the queue empty, a count that saturates
abbrev pub found_empty : Pops → ℕ
found_empty pops = pops.empty

-- one more pop found the queue empty
abbrev pub CountsOne : Pops → Pops → Type 0
CountsOne before after = found_empty after ≡ min (found_empty before + 1) (2 ^ 64 - 1)

-- at least this many more pops found the queue empty
abbrev pub CountsMore : ℕ → Pops → Pops → Type 0
CountsMore found before after = min (found_empty before + found) (2 ^ 64 - 1) ≤ found_empty after
