use Rattle.std.proofs.Common.{◌≡◌, ◌<◌, ℕ, Bor, List, length, slice_index_or}
use Rattle.machine_model.specs.declared.settings.TheConstants.{OPTION_COUNT}
use Rattle.machine_model.specs.Options.{OptionRule, machine_options}
use Rattle.machine_model.proofs.args.names.Given as goal

abbrev pub invariant-loop-i : goal.invariant-loop-i
invariant-loop-i l = (length l.names ≡ OPTION_COUNT)
    × ((k : ℕ) (o : OptionRule) (d : Bor (List ℕ)) → k < l.i → (slice_index_or l.names k d).now ≡ (slice_index_or machine_options k o).name)
