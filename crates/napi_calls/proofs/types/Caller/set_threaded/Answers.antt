use Rattle.{std.proofs.Common.refl, napi_calls.proofs.{Standing.kept, Packets.quiet_step, Making.{nothing, step}}}
use Rattle.napi_calls.proofs.types.Caller.set_threaded.Goals as goal

pub invariant_of-self : goal.invariant_of-self
invariant_of-self c = record { stands = kept c.threaded.new.pass c.args.self.now.stands c.threaded.ensures.step.event (λ s. refl) }

pub returns-clause-event : goal.returns-clause-event
returns-clause-event c =
    step (nothing c.args.self.now.stands) c.threaded.ensures.step

pub returns-clause-packets : goal.returns-clause-packets
returns-clause-packets c = quiet_step c.args.self.now.pass c.threaded.new.pass c.threaded.ensures.step.event c.threaded.ensures.step.packets
