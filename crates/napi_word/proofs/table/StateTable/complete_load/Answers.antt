use Rattle.napi_word.proofs.Turns.{completes_held}
use Rattle.napi_word.proofs.table.StateTable.complete_load.Goals as goal

pub load-requires-clause-may : goal.load-requires-clause-may
load-requires-clause-may c = completes_held c.args.self.now c.args.pass.now c.requires.owner
