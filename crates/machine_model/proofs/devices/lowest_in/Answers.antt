use Rattle.std.proofs.{Common.{rules, sym, arith, w64}, lemmas.Nat.Bits.bit_at-trailing_zeros}
use Rattle.machine_model.proofs.PendingFacts.{lowest-none, lowest-some}
use Rattle.machine_model.proofs.devices.lowest_in.Goals as goal

pub returns-then-asking-eq0-clause-lowest : goal.returns-then-asking-eq0-clause-lowest
returns-then-asking-eq0-clause-lowest c = λ devices few mask. sym (lowest-none devices c.args.asking (omega arith) few mask)

pub returns-clause-lowest : goal.returns-clause-lowest
returns-clause-lowest c = λ devices few mask. sym (lowest-some devices c.args.asking (omega arith) (search rules) mask)

pub returns-clause-below : goal.returns-clause-below
returns-clause-below c = (bit_at-trailing_zeros w64 c.args.asking (omega arith) (search rules)).0
