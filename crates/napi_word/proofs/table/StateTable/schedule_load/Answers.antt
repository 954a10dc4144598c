use Rattle.napi_word.proofs.Turns.{tries}
use Rattle.napi_word.proofs.table.StateTable.schedule_load.Goals as goal

pub load-seen-requires-clause-may : goal.load-seen-requires-clause-may
load-seen-requires-clause-may c = tries c.args.self.now c.args.pass.now
