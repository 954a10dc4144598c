use Rattle.std.proofs.{Common.arith, lemmas.Grind.common_steps}
use Rattle.device_bench.proofs.bench.DeviceBench.counts.Goals as goal

pub unreachable-unreachable : goal.unreachable-unreachable
unreachable-unreachable g c = grind (arith, common_steps)

pub returns-in-Some-Some-get-clause-devices : goal.returns-in-Some-Some-get-clause-devices
returns-in-Some-Some-get-clause-devices g c = grind (arith, common_steps)

pub returns-in-Some-Some-get-clause-transmits : goal.returns-in-Some-Some-get-clause-transmits
returns-in-Some-Some-get-clause-transmits g c = grind (arith, common_steps)

pub returns-in_default-get-clause-devices : goal.returns-in_default-get-clause-devices
returns-in_default-get-clause-devices g c = grind (arith, common_steps)

pub returns-in_default-get-clause-transmits : goal.returns-in_default-get-clause-transmits
returns-in_default-get-clause-transmits g c = grind (arith, common_steps)

pub get-requires : goal.get-requires
get-requires g c = grind (arith, common_steps)

pub unreachable-requires : goal.unreachable-requires
unreachable-requires g c = grind (arith, common_steps)
