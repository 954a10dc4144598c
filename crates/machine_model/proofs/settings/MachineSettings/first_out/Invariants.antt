use Rattle.std.proofs.Common.{◌<◌, ℕ}
use Rattle.machine_model.specs.Options.{IsInRangeAt}
use Rattle.machine_model.proofs.settings.MachineSettings.first_out.Given as goal

abbrev pub invariant-loop-i : goal.invariant-loop-i
invariant-loop-i l = (k : ℕ) → k < l.i → IsInRangeAt l.values k
