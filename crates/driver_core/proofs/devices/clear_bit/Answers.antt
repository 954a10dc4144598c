use Rattle.std.proofs.Common.{w64}
use Rattle.std.proofs.lemmas.Nat.Bits.{bit_at_clear_other, bit_at_clear_same}
use Rattle.driver_core.proofs.devices.clear_bit.Goals as goal

pub returns-clause-same : goal.returns-clause-same
returns-clause-same c = bit_at_clear_same w64 c.args.bits c.args.device c.requires

pub returns-clause-others : goal.returns-clause-others
returns-clause-others c = λ k small ne. bit_at_clear_other w64 c.args.bits c.args.device c.requires k small ne
