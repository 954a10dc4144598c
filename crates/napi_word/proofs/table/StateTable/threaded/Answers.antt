use Rattle.napi_word.proofs.Turns.{sets_threaded, clears_threaded}
use Rattle.napi_word.proofs.table.StateTable.threaded.Goals as goal

pub set-requires-clause-may : goal.set-requires-clause-may
set-requires-clause-may c = sets_threaded c.args.self.now c.args.pass.now

pub keep-requires-clause-may : goal.keep-requires-clause-may
keep-requires-clause-may c = clears_threaded c.args.self.now c.args.pass.now
