use Rattle.std.proofs.Common.{ap, ◌∙◌}
use Rattle.poll_engine.proofs.shared.fill.Goals as goal

pub pop-requires : goal.pop-requires
pop-requires g c = record { pass = (c.loop.invariant.pass.0, ap (λ v. v.polls) c.loop.invariant.popped.2 ∙ c.requires.pass.1) }
