use Rattle.napi_calls.proofs.Standing.{shows_of, is_granted, granted_unbusy}
use Rattle.napi_calls.proofs.types.Granted.knows.Goals as goal

pub returns-clause-shows : goal.returns-clause-shows
returns-clause-shows c = shows_of c.args.self.now.stands

pub returns-clause-place : goal.returns-clause-place
returns-clause-place c = is_granted c.args.self.now.stands

pub returns-clause-flag : goal.returns-clause-flag
returns-clause-flag c = granted_unbusy c.args.self.now.stands
