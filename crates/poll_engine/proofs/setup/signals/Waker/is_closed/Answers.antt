use Rattle.std.proofs.Common.{◌≡◌, ⊎_elim, arith}
use Rattle.poll_engine.specs.Wakers.{saw_closed}
use Rattle.poll_engine.proofs.setup.signals.Waker.is_closed.Goals as goal

pub returns : goal.returns
returns g c = λ seen.
    ⊎_elim (λ (none : c.load.result ≡ 0). absurd (grind (arith, none, seen))) (λ closed. saw_closed closed _ _) c.load.ensures
