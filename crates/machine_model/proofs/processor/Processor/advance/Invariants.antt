use Rattle.std.proofs.Common.{◌≡◌, ℕ, ◌<◌, true}
use Rattle.machine_model.{specs.Processor.{processor_after, is_due}, proofs.LeftFacts.{left, load}}
use Rattle.machine_model.proofs.processor.Processor.advance.Given as goal

abbrev pub invariant-loop-self : goal.invariant-loop-self
invariant-loop-self l = (count : ℕ) × ((n : ℕ) → n < count
    → is_due l.moment (processor_after n l.fn.self) ≡ true) × (l.self ≡ processor_after count l.fn.self)

abbrev pub decreases-loop-self : goal.decreases-loop-self
decreases-loop-self l = left load l.self
