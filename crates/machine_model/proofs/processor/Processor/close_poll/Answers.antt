use Rattle.std.proofs.Common.{◌≡◌, ◌∙◌, Some, sym}
use Rattle.machine_model.specs.{Kept.polled_by, declared.processor.Work.TheVariants.Arm}
use Rattle.machine_model.proofs.KeptFacts.{arms-within, kept-work}
use Rattle.machine_model.proofs.processor.Processor.close_poll.Goals as goal

pub invariant_of-self : goal.invariant_of-self
invariant_of-self c =
    let i = c.self.inside in
    let polled : polled_by i.work ≡ Some c.args.number = rw (← c.self.view_is) at c.requires.polled in
    kept-work i.settings i.work (Arm (record { device = c.args.number; given = c.args.given })) i.devices i.softirq
    c.self.invariant (sym polled)
    (arms-within c.args.given i.settings (sym c.may_arm-may.ensures ∙ c.if-may.true))
