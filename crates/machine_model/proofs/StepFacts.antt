-- Steps, one after the other.
use Rattle.std.proofs.{Common.{◌≡◌, ℕ, suc, ◌<◌, true, arith}, lemmas.Grind.common_steps}
use Rattle.machine_model.specs.Processor.{ProcessorView, processor_after, is_due}

-- all of the first `count` steps are due, and one more
pub each-more : (moment : ℕ) (p : ProcessorView) (count : ℕ) → ((n : ℕ) → n < count → is_due moment (processor_after n p) ≡ true)
    → is_due moment (processor_after count p) ≡ true
    → (n : ℕ) → n < suc count → is_due moment (processor_after n p) ≡ true
each-more moment p count each last n below = grind (arith, common_steps)
