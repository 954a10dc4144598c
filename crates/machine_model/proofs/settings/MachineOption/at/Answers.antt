use Rattle.std.proofs.Common.{rules}
use Rattle.machine_model.proofs.OptionFacts.{option_at}
use Rattle.machine_model.proofs.settings.MachineOption.at.Goals as goal

pub returns : goal.returns
returns c = λ o. search (rules, option_at)
