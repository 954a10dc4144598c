use Rattle.{std.proofs.Common.refl, napi_word.specs.declared.history.Holds.TheVariants.Out}
use Rattle.napi_calls.proofs.{Standing.{looked, busy_looked, stays_has}, Packets.{owns, held_step}, Making.{nothing, step}}
use Rattle.napi_calls.proofs.types.Polling.look.Goals as goal

pub invariant_of-self : goal.invariant_of-self
invariant_of-self c = record {
  stands = looked c.look.new.pass c.args.self.now.stands c.look.ensures.step.event;
  busy = busy_looked c.look.new.pass c.args.self.now.stands c.args.self.now.busy c.look.ensures.step.event;
  has = stays_has c.args.self.now.pass c.look.new.pass _ c.args.self.now.has c.look.ensures.step.holds c.look.ensures.step.event.ring
      c.look.ensures.step.packets;
}

pub returns-clause-event : goal.returns-clause-event
returns-clause-event c = step (nothing c.args.self.now.stands) c.look.ensures.step

pub returns-clause-packets : goal.returns-clause-packets
returns-clause-packets c =
    held_step c.args.self.now.pass c.look.new.pass
    (owns c.args.self.now.pass Out c.args.self.now.has.holds refl) c.look.ensures.step.packets
