use Rattle.{std.proofs.Common.{inr, refl}, poll_engine.specs.Wakers.closed_by}
use Rattle.poll_engine.proofs.setup.signals.Waker.close.Goals as goal

pub store-requires : goal.store-requires
store-requires g c = inr (closed_by c.add.new.self _ _ c.add.ensures refl)
