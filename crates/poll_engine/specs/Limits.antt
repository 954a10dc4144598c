-- The numbers of a run.
use Rattle.std.specs.Prelude.{◌≤◌}
use Rattle.poll_engine.specs.declared.setup.context.PollLimits.{PollLimits}

-- the numbers of a run are in their ranges
pub record IsLawful (limits : PollLimits) : Type 0 where
  pub budget : (1 ≤ limits.budget) × (limits.budget ≤ 65535)
  pub weight : (1 ≤ limits.weight) × (limits.weight ≤ 64)
  pub window : (1 ≤ limits.window) × (limits.window ≤ 65535)
