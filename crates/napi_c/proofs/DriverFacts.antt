-- What a call of a driver writes if it fails.
use Rattle.std.proofs.Common.{◌≡◌, ◌∙◌, ℕ, ap, arith}
use Rattle.driver_core.specs.declared.driver.Driver.{Driver}
use Rattle.c_handles.specs.declared.drive.FqTodo.{FqTodo}
use Rattle.c_handles.specs.{Drivers.{IsDriverStep, IsDriverTurn, failed_in}, Status.BAD_HANDLE}

pub step_failed : (before after : FqTodo) (d : Driver) (n : ℕ) (e : Driver) → IsDriverStep before after d n e → n ≡ BAD_HANDLE
    → after ≡ failed_in BAD_HANDLE
step_failed before after d n e step is = (step.failed (λ ok. omega (arith, is, ok))).0 ∙ ap (λ (m : ℕ). failed_in m) is

pub turn_failed : (bits : ℕ) (before after : FqTodo) (d : Driver) (n : ℕ) (e : Driver) → IsDriverTurn bits before after d n e
    → n ≡ BAD_HANDLE → after ≡ failed_in BAD_HANDLE
turn_failed bits before after d n e turn is =
    (turn.turns (λ bad. omega (arith, is, bad))).failed (λ ok. omega (arith, is, ok)) ∙ ap (λ (m : ℕ). failed_in m) is
