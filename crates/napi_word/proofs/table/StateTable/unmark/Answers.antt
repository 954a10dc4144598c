use Rattle.napi_word.proofs.Turns.{unmarks}
use Rattle.napi_word.proofs.table.StateTable.unmark.Goals as goal

pub subtract-requires-clause-may : goal.subtract-requires-clause-may
subtract-requires-clause-may c = unmarks c.args.self.now c.args.pass.now c.requires.controller c.requires.owner c.requires.marked
