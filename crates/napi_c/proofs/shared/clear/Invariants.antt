use Rattle.std.proofs.Common.{ℕ, ◌<◌, get_or}
use Rattle.napi_c.specs.Shared.{IsFree}
use Rattle.napi_c.proofs.shared.clear.Given as goal

abbrev pub invariant-loop-handle : goal.invariant-loop-handle
invariant-loop-handle l = (k : ℕ) → k < l.handle-index → (d : _) → IsFree (get_or l.handles k d)
