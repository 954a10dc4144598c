use Rattle.std.proofs.Common.{refl, arith}
use Rattle.replay.proofs.script.ScriptDevice.of.Goals as goal

pub invariant_of-result : goal.invariant_of-result
invariant_of-result c = record {
  few = c.requires.count;
  within = omega arith;
  packets = refl;
  transmit = c.in_ok-open.ensures;
}
