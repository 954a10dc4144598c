use Rattle.napi_word.proofs.Turns.{takes_busy}
use Rattle.napi_word.proofs.table.StateTable.busy_swap.Goals as goal

pub exchange-requires-clause-may : goal.exchange-requires-clause-may
exchange-requires-clause-may c = takes_busy c.args.self.now c.args.pass.now c.args.seen c.requires.idle
