use Rattle.std.proofs.Common.{◌∙◌, arith, refl, sym}
use Rattle.machine_model.{specs.{Kept.polled_by}, proofs.KeptFacts.{asks-unthreaded, if-none, kept-idle, kept-next}}
use Rattle.machine_model.specs.declared.processor.Work.TheVariants.{Poll}
use Rattle.machine_model.proofs.processor.Processor.go_on.Goals as goal

pub invariant_of-self : goal.invariant_of-self
invariant_of-self c =
    let i = c.self.inside in
    let nothing = rw (← c.self.view_is) at c.requires in
    let none = kept-idle i.settings i.work i.devices i.softirq c.self.invariant (rw nothing refl) in
    let asked = rw c.next.ensures.softirq at (sym c.next.ensures.answer ∙ c.in-Some.is) in
    let threaded = asks-unthreaded i.settings i.work i.devices i.softirq c.in-Some.number c.self.invariant none asked in
    rw c.next.ensures.softirq
    (kept-next i.settings i.work (Poll (record { device = c.in-Some.number; given = 0 })) i.devices i.softirq c.self.invariant none
    (rw threaded asked) (omega (arith, i.settings.weight_in.0)))

pub invariant_of-self-in-None : goal.invariant_of-self-in-None
invariant_of-self-in-None c =
    let i = c.self.inside in
    let nothing = rw (← c.self.view_is) at c.requires in
    let none = kept-idle i.settings i.work i.devices i.softirq c.self.invariant (rw nothing refl) in
    let asked = rw c.next.ensures.softirq at (sym c.next.ensures.answer ∙ c.in-None.is) in
    rw c.next.ensures.softirq
    (kept-next i.settings i.work i.work i.devices i.softirq c.self.invariant none (asked ∙ sym (if-none i.settings.threaded
    (polled_by i.work) (rw nothing refl)))
    c.self.invariant.within)
