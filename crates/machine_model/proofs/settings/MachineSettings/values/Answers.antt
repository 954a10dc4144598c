use Rattle.std.proofs.Common.{rules}
use Rattle.machine_model.specs.Options.{machine_options}
use Rattle.machine_model.proofs.settings.MachineSettings.values.Goals as goal

pub returns : goal.returns
unfolding machine_options
returns c = search rules
