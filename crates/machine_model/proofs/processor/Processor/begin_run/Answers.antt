use Rattle.std.proofs.Common.{◌≡◌, ◌∙◌, None, arith, refl, sym}
use Rattle.machine_model.{specs.Softirq.{begun}, proofs.KeptFacts.{kept-begun, kept-next}}
use Rattle.machine_model.specs.declared.processor.Work.TheVariants.{Poll}
use Rattle.machine_model.proofs.processor.Processor.begin_run.Goals as goal

pub invariant_of-self : goal.invariant_of-self
invariant_of-self c =
    let i = c.self.inside in
    let s = i.settings in
    let none : i.softirq.run ≡ None = rw (← c.self.view_is) at c.requires.run in
    let nothing = rw (← c.self.view_is) at c.requires.work in
    let polling = rw (← c.self.view_is) at c.requires.polling in
    let threaded = rw (← c.self.view_is) at c.requires.threaded in
    let q = begun i.clock s.budget s.weight s.window i.softirq in
    let asked = rw (c.next.ensures.softirq, c.begin.ensures) at (sym c.next.ensures.answer ∙ c.in-Some.is) in
    rw (c.next.ensures.softirq, c.begin.ensures)
    (kept-next s i.work
    (Poll (record { device = c.in-Some.number; given = 0 })) i.devices q
    (kept-begun s i.work i.devices i.softirq i.clock c.self.invariant none (rw nothing refl) polling threaded) refl
    (rw threaded asked)
    (omega (arith, s.weight_in.0)))

pub invariant_of-self-in_default : goal.invariant_of-self-in_default
invariant_of-self-in_default c =
    let i = c.self.inside in
    let s = i.settings in
    let none : i.softirq.run ≡ None = rw (← c.self.view_is) at c.requires.run in
    let nothing = rw (← c.self.view_is) at c.requires.work in
    let polling = rw (← c.self.view_is) at c.requires.polling in
    let threaded = rw (← c.self.view_is) at c.requires.threaded in
    let q = begun i.clock s.budget s.weight s.window i.softirq in
    let asked = rw (c.next.ensures.softirq, c.begin.ensures) at (sym c.next.ensures.answer ∙ c.in_default.is) in
    rw (c.next.ensures.softirq, c.begin.ensures)
    (kept-next s i.work i.work i.devices q
    (kept-begun s i.work i.devices i.softirq i.clock c.self.invariant none (rw nothing refl) polling threaded) refl
    (rw (threaded, nothing) asked)
    c.self.invariant.within)
