use Rattle.napi_word.proofs.Turns.{looks}
use Rattle.napi_word.proofs.table.StateTable.look.Goals as goal

pub load-requires-clause-may : goal.load-requires-clause-may
load-requires-clause-may c = looks c.args.self.now c.args.pass.now
