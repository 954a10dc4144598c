use Rattle.std.proofs.{Common.arith, lemmas.Grind.common_steps}
use Rattle.device_bench.proofs.bench.DeviceBench.is_attached.Goals as goal

pub returns-in-Some-Some-clause-devices : goal.returns-in-Some-Some-clause-devices
returns-in-Some-Some-clause-devices g c = grind (arith, common_steps)

pub returns-in-Some-Some-clause-transmits : goal.returns-in-Some-Some-clause-transmits
returns-in-Some-Some-clause-transmits g c = grind (arith, common_steps)

pub returns-in_default-clause-devices : goal.returns-in_default-clause-devices
returns-in_default-clause-devices g c = grind (arith, common_steps)

pub returns-in_default-clause-transmits : goal.returns-in_default-clause-transmits
returns-in_default-clause-transmits g c = grind (arith, common_steps)

pub returns-in_default-2-clause-devices : goal.returns-in_default-2-clause-devices
returns-in_default-2-clause-devices g c = grind (arith, common_steps)

pub returns-in_default-2-clause-transmits : goal.returns-in_default-2-clause-transmits
returns-in_default-2-clause-transmits g c = grind (arith, common_steps)
