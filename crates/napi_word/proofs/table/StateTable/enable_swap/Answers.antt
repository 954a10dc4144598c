use Rattle.{std.proofs.Common.{true, false}, napi_word.proofs.Turns.enables}
use Rattle.napi_word.proofs.table.StateTable.enable_swap.Goals as goal

pub exchange-requires-clause-may : goal.exchange-requires-clause-may
exchange-requires-clause-may c =
    enables c.args.self.now c.args.pass.now true c.args.seen c.requires.controller c.requires.owner c.requires.unmarked c.requires.within

pub exchange-requires-else-threaded-clause-may : goal.exchange-requires-else-threaded-clause-may
exchange-requires-else-threaded-clause-may c =
    enables c.args.self.now c.args.pass.now false c.args.seen c.requires.controller c.requires.owner c.requires.unmarked c.requires.within
