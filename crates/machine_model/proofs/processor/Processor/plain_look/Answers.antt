use Rattle.std.proofs.Common.{◌≡◌, Some, arith, sym}
use Rattle.machine_model.specs.{Device.without_next, Kept.polled_by, declared.processor.Work.TheVariants.Packet}
use Rattle.machine_model.proofs.{KeptFacts.{kept-devices, kept-work}, PlacesFacts.{same-next, scheduled-same}}
use Rattle.machine_model.proofs.processor.Processor.plain_look.Goals as goal

pub invariant_of-self : goal.invariant_of-self
invariant_of-self c =
    let i = c.self.inside in
    let backlog = i.settings.backlog in
    let polled : polled_by i.work ≡ Some c.args.number = rw (← c.self.view_is) at c.requires.polled in
    rw c.take_next.ensures.devices
    (kept-work i.settings i.work
    (Packet (record { device = c.args.number; came = c.in-Some.came; given = c.args.given }))
    _ i.softirq
    (kept-devices i.settings i.work i.devices _ i.softirq c.self.invariant
    (omega (arith, scheduled-same (without_next backlog) c.args.number i.devices (same-next backlog)))) (sym polled) c.if-given-self.true)

pub invariant_of-self-in_default : goal.invariant_of-self-in_default
invariant_of-self-in_default c =
    let i = c.self.inside in
    let backlog = i.settings.backlog in
    rw c.take_next.ensures.devices
    (kept-devices i.settings i.work i.devices _ i.softirq c.self.invariant
    (omega (arith, scheduled-same (without_next backlog) c.args.number i.devices (same-next backlog))))
