use Rattle.std.proofs.{Common.{◌≡◌, ◌∙◌, ◌+◌, ◌-◌, ◌≤◌, Bool, Some, None, true, false, ap, arith, refl, sym}, lemmas.Bool.ltb-true}
use Rattle.std.specs.Prelude.{◌&&◌, nat_lt}
use Rattle.device_places.specs.Places.{at}
use Rattle.machine_model.specs.{Device.{holding, without_held}, Devices.{next_held_at, pulls_at}, Kept.{is_scheduled, polled_by}}
use Rattle.machine_model.specs.{Processor.batch_looks, declared.{device.Phase.Phase, processor.Work.TheVariants.{Poll, Packet}}}
use Rattle.machine_model.proofs.{KeptFacts.{kept-devices, kept-work}, PendingFacts.{held-none, phase-holding}}
use Rattle.machine_model.proofs.{PlacesFacts.{same-held, scheduled-same}}
use Rattle.machine_model.proofs.processor.Processor.batch_look.Goals as goal

first : (a b : Bool) → (a && b) ≡ true → a ≡ true
first true b is = refl
first false b is = cc is

pub invariant_of-self : goal.invariant_of-self
invariant_of-self c =
    let i = c.self.inside in
    let n = c.args.number in
    let polled : polled_by i.work ≡ Some n = rw (← c.self.view_is) at c.requires.polled in
    let more : (nat_lt c.args.given i.settings.weight && pulls_at i.settings.gro_batch c.args.given (at n i.devices)) ≡ true =
    sym c.hold.ensures.more ∙ c.if-hold.true in
    let less = ltb-true c.args.given i.settings.weight (first _ _ more) in
    rw (c.hold.ensures.taken c.if-hold.true)
    (kept-work i.settings i.work (Poll (record { device = n; given = c.args.given + 1 })) _ i.softirq
    (kept-devices i.settings i.work i.devices _ i.softirq c.self.invariant
    (omega (arith, scheduled-same holding n i.devices (λ d. ap (λ (phase : Phase). is_scheduled phase) (phase-holding d)))))
    (sym polled) (omega (arith, less)))

pub invariant_of-self-in-Some : goal.invariant_of-self-in-Some
invariant_of-self-in-Some c =
    let i = c.self.inside in
    let polled : polled_by i.work ≡ Some c.args.number = rw (← c.self.view_is) at c.requires.polled in
    let given : c.args.given ≤ i.settings.weight = rw (← c.self.view_is) at c.requires.given in
    rw (c.take_held.ensures.devices, c.hold.ensures.kept c.if-hold.false, c.saturating_sub.ensures)
    (kept-work i.settings i.work
    (Packet (record { device = c.args.number; came = c.in-Some.came; given = c.args.given - 1 }))
    _ i.softirq
    (kept-devices i.settings i.work i.devices _ i.softirq c.self.invariant
    (omega (arith, scheduled-same without_held c.args.number i.devices same-held))) (sym polled)
    (omega (arith, given, i.settings.weight_in.0)))

pub invariant_of-self-in_default : goal.invariant_of-self-in_default
invariant_of-self-in_default c =
    let i = c.self.inside in
    rw (c.take_held.ensures.devices, c.hold.ensures.kept c.if-hold.false)
    (kept-devices i.settings i.work i.devices _ i.softirq c.self.invariant
    (omega (arith, scheduled-same without_held c.args.number i.devices same-held)))

pub returns : goal.returns
unfolding batch_looks
returns c =
    let i = c.self.inside in
    let n = c.args.number in
    let same = c.hold.ensures.kept c.if-hold.false in
    let more : (nat_lt c.args.given i.settings.weight && pulls_at i.settings.gro_batch c.args.given (at n i.devices)) ≡ false =
    sym c.hold.ensures.more ∙ c.if-hold.false in
    let none : next_held_at (at n i.devices) ≡ None = rw same at (sym c.take_held.ensures.packet ∙ c.in_default.is) in
    rw (← c.self.view_is, more, none) (rw (c.take_held.ensures.devices, same, held-none n i.devices none) at c.close_poll.ensures)
