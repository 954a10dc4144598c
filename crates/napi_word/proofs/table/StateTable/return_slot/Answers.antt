use Rattle.napi_word.{specs.Passes.tie_of, proofs.{Allowed.returns_slot, Said.one_there}}
use Rattle.napi_word.proofs.table.StateTable.return_slot.Goals as goal

pub load-requires : goal.load-requires
load-requires c = (
  c.requires.table,
  one_there c.args.self.now,
  returns_slot _ _ _ _ c.args.self.now.one_slot c.args.pass.is_pass _
      (tie_of c.args.pass) c.requires.out,
)
