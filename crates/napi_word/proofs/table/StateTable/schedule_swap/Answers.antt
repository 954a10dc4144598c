use Rattle.napi_word.proofs.Turns.{schedules}
use Rattle.napi_word.proofs.table.StateTable.schedule_swap.Goals as goal

pub exchange-requires-clause-may : goal.exchange-requires-clause-may
exchange-requires-clause-may c = schedules c.args.self.now c.args.pass.now c.args.seen c.requires.enabled
