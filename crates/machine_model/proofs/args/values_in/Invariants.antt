use Rattle.std.proofs.Common.{◌≡◌, ◌<◌, ℕ, Some, length, slice_index_or}
use Rattle.text_io.specs.Options.{value_in}
use Rattle.machine_model.specs.declared.settings.TheConstants.{OPTION_COUNT}
use Rattle.machine_model.specs.Options.{IsOptionInRange, OptionRule, machine_options, number_with}
use Rattle.machine_model.proofs.args.values_in.Given as goal

abbrev pub invariant-loop-i : goal.invariant-loop-i
invariant-loop-i l = (length l.values ≡ OPTION_COUNT)
    × ((k : ℕ) (o : OptionRule) (d : ℕ) → k < l.i
    → IsOptionInRange (slice_index_or machine_options k o) (slice_index_or l.values k d)
    × (number_with (value_in l.matches) (slice_index_or machine_options k o) ≡ Some (slice_index_or l.values k d)))
