use Rattle.{std.proofs.Common.inr, poll_engine.specs.Refusals.refused_by}
use Rattle.poll_engine.proofs.tasks.spawn.Goals as goal

pub store-requires : goal.store-requires
store-requires g c = inr (refused_by c.in-Err.not_started)
