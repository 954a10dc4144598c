use Rattle.napi_word.proofs.Turns.{disables}
use Rattle.napi_word.proofs.table.StateTable.take_swap.Goals as goal

pub exchange-requires-clause-may : goal.exchange-requires-clause-may
exchange-requires-clause-may c =
    disables c.args.self.now c.args.pass.now c.args.seen c.requires.controller c.requires.idle.0 c.requires.idle.1 c.requires.idle.2
