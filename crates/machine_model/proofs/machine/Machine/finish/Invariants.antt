use Rattle.machine_model.proofs.MachineFacts.{Finished}
use Rattle.machine_model.proofs.machine.Machine.finish.Given as goal

abbrev pub invariant-loop-number : goal.invariant-loop-number
invariant-loop-number l = Finished l.fn.self l.self-inside.processors.items l.number
