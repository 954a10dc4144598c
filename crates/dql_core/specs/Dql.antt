-- How a `Dql` represents a limit in whole numbers.
use Rattle.std.specs.Prelude.{◌≡◌, ℕ, ◌+◌, ◌≤◌}
use Rattle.dql_core.specs.{Counter.{IsWrapped, distance_of}, Limit.new_limit, Bounds.most_in_flight}
use Rattle.dql_core.specs.declared.{queue.{Adjustment.Adjustment, Dql.Dql}, whole.Limit.Limit}

-- d represents the limit s: its counters are those of s modulo 2 ^ 32, and its other numbers are equal
pub record Shows (d : Dql) (s : Limit) : Type 0 where
  pub queued : IsWrapped d.queued s.queued
  pub completed : IsWrapped d.completed s.completed
  pub previous_queued : IsWrapped d.previous_queued s.previous_queued
  pub order : (s.completed ≤ s.previous_queued) × (s.previous_queued ≤ s.queued)
  pub in_flight : s.queued ≤ s.completed + most_in_flight
  pub last_object : d.last_object ≡ s.last_object
  pub limit : d.limit ≡ s.limit
  pub previous_over : d.previous_over ≡ s.previous_over
  pub previous_last_object : d.previous_last_object ≡ s.previous_last_object
  pub lowest_slack : d.lowest_slack ≡ s.lowest_slack
  pub slack_start : d.slack_start ≡ s.slack_start
  pub bounds : (d.min_limit ≡ s.min_limit) × (d.max_limit ≡ s.max_limit)
  pub hold : d.hold ≡ s.hold

-- the bytes in flight by d's own counters
abbrev pub bytes_in_flight : Dql → ℕ
bytes_in_flight d = distance_of d.queued d.completed

-- a new limit with d's bounds and hold time, made when d's slack time began
abbrev pub new_limit_of : Dql → Limit
new_limit_of d = new_limit d.min_limit d.max_limit d.hold d.slack_start

-- d is new or was just reset
abbrev pub IsNewLimit : Dql → Type 0
IsNewLimit d = Shows d (new_limit_of d)

-- the limit s with the limit and the slack of a
abbrev pub with_adjustment : Limit → Adjustment → Limit
with_adjustment s a = record s { limit = a.limit; lowest_slack = a.lowest_slack; slack_start = a.slack_start }
