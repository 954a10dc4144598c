use Rattle.std.proofs.Common.{refl}
use Rattle.machine_model.specs.Options.{machine_options}
use Rattle.machine_model.proofs.settings.MachineOption.table.Goals as goal

pub returns : goal.returns
unfolding machine_options
returns c = refl
