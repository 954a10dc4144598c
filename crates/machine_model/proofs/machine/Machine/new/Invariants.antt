use Rattle.std.proofs.Common.{◌≡◌, replicate}
use Rattle.machine_model.specs.Processor.{opened_processor}
use Rattle.machine_model.proofs.machine.Machine.new.Given as goal

abbrev pub invariant-loop : goal.invariant-loop
invariant-loop l = l.processors.items ≡ replicate l.counter (opened_processor l.settings)
