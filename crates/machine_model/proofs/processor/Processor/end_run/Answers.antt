use Rattle.{std.proofs.Common.{refl}, machine_model.proofs.KeptFacts.{kept-ended, kept-idle, run-ended}}
use Rattle.machine_model.proofs.processor.Processor.end_run.Goals as goal

pub invariant_of-self : goal.invariant_of-self
invariant_of-self c =
    let i = c.self.inside in
    let nothing = rw (← c.self.view_is) at c.requires in
    let none = kept-idle i.settings i.work i.devices i.softirq c.self.invariant (rw nothing refl) in
    rw c.end-spent.ensures.softirq (kept-ended i.settings i.work i.devices i.softirq c.self.invariant none (rw nothing refl))

pub returns-clause-run : goal.returns-clause-run
returns-clause-run c = rw c.end-spent.ensures.softirq (run-ended c.self.inside.softirq)
