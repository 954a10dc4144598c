use Rattle.std.proofs.Common.{◌≡◌, ◌<◌, ℕ, length, slice_index_or}
use Rattle.machine_model.specs.declared.settings.TheConstants.{OPTION_COUNT}
use Rattle.machine_model.specs.Options.{OptionRule, machine_options}
use Rattle.machine_model.proofs.settings.MachineSettings.defaults.Given as goal

abbrev pub invariant-loop-i : goal.invariant-loop-i
invariant-loop-i l = (length l.values ≡ OPTION_COUNT)
    × ((k : ℕ) (o : OptionRule) (d : ℕ) → k < l.i → slice_index_or l.values k d ≡ (slice_index_or machine_options k o).default)
