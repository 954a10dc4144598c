use Rattle.napi_word.proofs.Turns.{completes}
use Rattle.napi_word.proofs.table.StateTable.complete_swap.Goals as goal

pub exchange-requires-clause-may : goal.exchange-requires-clause-may
exchange-requires-clause-may c = completes c.args.self.now c.args.pass.now c.args.seen c.requires.owner c.requires.within
