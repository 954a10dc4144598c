-- The operation of a pass, determined by the word that it found.
use Rattle.std.proofs.Common.{◌<◌, sym, subst, arith}
use Rattle.napi_word.specs.declared.table.StateTable.{StateTable}

pub one_there : (t : StateTable) → 0 < t.table.shared.table_id.words
one_there t = subst (λ n. 0 < n) (sym t.one_word) (omega arith)
