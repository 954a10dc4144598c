-- The fact that a writer stopped, which a function concludes from what the writer returned, or from how often it was called.
use Rattle.std.specs.{Prelude.{◌≡◌, ◌≤◌, ◌-◌, ◌^◌, ℕ}, IoError.error_kind, declared.io.{Error.Error, ErrorKind.TheVariants.Interrupted}}

pub HasStopped : Type 0
HasStopped = Unit {0}

pub stopped_by : (error : Error) → (error_kind error ≡ Interrupted → ⊥) → HasStopped
unfolding HasStopped
stopped_by error is = tt

pub stopped_at_none : (count : ℕ) → count ≡ 0 → HasStopped
unfolding HasStopped
stopped_at_none count is = tt

pub stopped_at_last : (asked : ℕ) → 2 ^ 64 - 1 ≤ asked → HasStopped
unfolding HasStopped
stopped_at_last asked is = tt
