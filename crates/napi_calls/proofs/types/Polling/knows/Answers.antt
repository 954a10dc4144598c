use Rattle.napi_calls.proofs.Standing.{shows_of, is_polling}
use Rattle.napi_calls.proofs.types.Polling.knows.Goals as goal

pub returns-clause-shows : goal.returns-clause-shows
returns-clause-shows c = shows_of c.args.self.now.stands

pub returns-clause-place : goal.returns-clause-place
returns-clause-place c = is_polling c.args.self.now.stands

pub returns-clause-flag : goal.returns-clause-flag
returns-clause-flag c = c.args.self.now.busy

pub returns-clause-context : goal.returns-clause-context
returns-clause-context c = c.args.self.now.has.ring
