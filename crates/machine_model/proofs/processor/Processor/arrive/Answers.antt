use Rattle.std.proofs.Common.{arith, rules}
use Rattle.machine_model.specs.Processor.{arrives}
use Rattle.machine_model.specs.Device.{after_packet}
use Rattle.machine_model.proofs.{KeptFacts.kept-devices, PlacesFacts.{same-packet, scheduled-same}}
use Rattle.machine_model.proofs.processor.Processor.arrive.Goals as goal

pub invariant_of-self-then-eq : goal.invariant_of-self-then-eq
invariant_of-self-then-eq c =
    let i = c.self.inside in
    let packet = after_packet c.args.moment i.settings in
    rw c.arrive-is_taken.ensures.devices
    (kept-devices i.settings i.work i.devices _ i.softirq c.self.invariant
    (omega (arith, c.open.ensures.scheduled, scheduled-same packet c.args.number c.open.new.self (same-packet c.args.moment i.settings))))

pub invariant_of-self-else-eq : goal.invariant_of-self-else-eq
invariant_of-self-else-eq c =
    let i = c.self.inside in
    let packet = after_packet c.args.moment i.settings in
    rw c.arrive-is_taken.ensures.devices
    (kept-devices i.settings i.work i.devices _ i.softirq c.self.invariant
    (omega (arith, c.open.ensures.scheduled, scheduled-same packet c.args.number c.open.new.self (same-packet c.args.moment i.settings))))

pub returns-in_ok-notice : goal.returns-in_ok-notice
unfolding arrives
returns-in_ok-notice c = (c.advance.new.self, c.in_ok-advance.ensures, search rules)

pub returns-else-is_taken : goal.returns-else-is_taken
unfolding arrives
returns-else-is_taken c = (c.advance.new.self, c.in_ok-advance.ensures, search rules)
