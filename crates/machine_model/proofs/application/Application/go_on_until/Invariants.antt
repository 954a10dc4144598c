use Rattle.std.proofs.Common.{◌≡◌}
use Rattle.machine_model.{specs.Application.{went_on}, proofs.ApplicationFacts.left_of}
use Rattle.machine_model.proofs.application.Application.go_on_until.Given as goal

abbrev pub invariant-loop-self : goal.invariant-loop-self
invariant-loop-self l = went_on l.moment l.use_time l.fn.self ≡ went_on l.moment l.use_time l.self

abbrev pub decreases-loop-self : goal.decreases-loop-self
decreases-loop-self l = left_of l.self
