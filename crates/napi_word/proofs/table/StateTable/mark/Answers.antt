use Rattle.napi_word.proofs.Turns.{marks}
use Rattle.napi_word.proofs.table.StateTable.mark.Goals as goal

pub add-requires-clause-may : goal.add-requires-clause-may
add-requires-clause-may c = marks c.args.self.now c.args.pass.now c.requires.controller c.requires.free c.requires.unmarked
