use Rattle.napi_calls.proofs.Standing.{shows_of, is_control}
use Rattle.napi_calls.proofs.control.Control+Off.knows.Goals as goal

pub returns-clause-shows : goal.returns-clause-shows
returns-clause-shows c = shows_of c.args.self.now.controls.stands

pub returns-clause-number : goal.returns-clause-number
returns-clause-number c = c.args.self.now.controls.stands.number

pub returns-clause-place : goal.returns-clause-place
returns-clause-place c = is_control c.args.self.now.controls.stands

pub returns-clause-flag : goal.returns-clause-flag
returns-clause-flag c = c.args.self.now.controls.flag

pub returns-clause-context : goal.returns-clause-context
returns-clause-context c = c.args.self.now.has.ring

pub returns-clause-received : goal.returns-clause-received
returns-clause-received c = c.args.self.now.exact
