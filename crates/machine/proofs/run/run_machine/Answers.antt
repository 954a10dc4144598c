use Rattle.std.proofs.Common.{rules}
use Rattle.machine.proofs.FaultFacts.{read-never}
use Rattle.machine.proofs.run.run_machine.Goals as goal

pub returns-in-Err-clause-output : goal.returns-in-Err-clause-output
returns-in-Err-clause-output g c = (
  λ failed bytes known. absurd (read-never c.args.settings.now bytes c.in-Err.fault failed (c.in-Err.ensures.fault bytes known)),
  λ other. search rules,
)
