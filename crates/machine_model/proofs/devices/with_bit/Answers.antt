use Rattle.std.proofs.{Common.w64, lemmas.Nat.Bits.{bit_at_clear_other, bit_at_clear_same, bit_at_set_other, bit_at_set_same}}
use Rattle.machine_model.proofs.devices.with_bit.Goals as goal

pub returns-then-is_set : goal.returns-then-is_set
returns-then-is_set c = record {
  own = rw c.if-is_set.true (bit_at_set_same w64 c.args.mask c.args.number c.requires);
  others = λ n small other. bit_at_set_other w64 c.args.mask c.args.number c.requires n other;
}

pub returns-else-is_set : goal.returns-else-is_set
returns-else-is_set c = record {
  own = rw c.if-is_set.false (bit_at_clear_same w64 c.args.mask c.args.number c.requires);
  others = λ n small other. bit_at_clear_other w64 c.args.mask c.args.number c.requires n small other;
}
