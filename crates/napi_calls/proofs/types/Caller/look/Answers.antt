use Rattle.napi_calls.proofs.{Standing.looked, Packets.quiet_step, Making.{nothing, step}}
use Rattle.napi_calls.proofs.types.Caller.look.Goals as goal

pub invariant_of-self : goal.invariant_of-self
invariant_of-self c = record { stands = looked c.look.new.pass c.args.self.now.stands c.look.ensures.step.event }

pub returns-clause-event : goal.returns-clause-event
returns-clause-event c = step (nothing c.args.self.now.stands) c.look.ensures.step

pub returns-clause-packets : goal.returns-clause-packets
returns-clause-packets c = quiet_step c.args.self.now.pass c.look.new.pass c.look.ensures.step.event c.look.ensures.step.packets
