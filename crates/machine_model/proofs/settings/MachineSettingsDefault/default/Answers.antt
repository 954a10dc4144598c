use Rattle.std.proofs.Common.{List, ℕ, subst, sym}
use Rattle.machine_model.specs.Options.{AreInRange}
use Rattle.machine_model.proofs.OptionFacts.{defaults_fit, defaults_in_range}
use Rattle.machine_model.proofs.settings.MachineSettingsDefault.default.Goals as goal

pub of_values-requires-clause-in_range : goal.of_values-requires-clause-in_range
of_values-requires-clause-in_range c = subst (λ (values : List ℕ). AreInRange values) (sym c.defaults.ensures) defaults_in_range

pub of_values-requires-clause-fit : goal.of_values-requires-clause-fit
of_values-requires-clause-fit c = rw c.defaults.ensures defaults_fit
