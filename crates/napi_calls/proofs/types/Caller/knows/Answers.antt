use Rattle.napi_calls.proofs.Standing.{shows_of, owns_nothing}
use Rattle.napi_calls.proofs.types.Caller.knows.Goals as goal

pub returns-clause-shows : goal.returns-clause-shows
returns-clause-shows c = shows_of c.args.self.now.stands

pub returns-clause-place : goal.returns-clause-place
returns-clause-place c = owns_nothing c.args.self.now.stands
