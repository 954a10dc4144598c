use Rattle.std.proofs.Common.{◌≡◌, Some}
use Rattle.machine_model.specs.Kept.{polled_by}
use Rattle.machine_model.proofs.KeptFacts.{kept-alone, kept-asks, kept-polled}
use Rattle.machine_model.proofs.processor.Processor.end_poll.Goals as goal
use Rattle.machine_model.proofs.processor.Processor.end_poll.Goals.{else-not-self+else-stays}
use Rattle.machine_model.proofs.processor.Processor.end_poll.Goals.{else-not-self+then-stays+in_ok-push_first, then-not-self}

pub invariant_of-self-2 : goal.invariant_of-self-2
invariant_of-self-2 c =
    let i = c.self.inside in
    let s = i.settings in
    let polled : polled_by i.work ≡ Some c.args.number = rw (← c.self.view_is) at c.requires.polled in
    elim c.if-not-self.branch [
      | then-not-self w ↦
          rw (c.end_poll.ensures, w.self-inside-is, w.poll_ended.ensures, c.is_rescheduled-again.ensures)
          (kept-polled s i.work i.devices i.softirq i.clock c.args.given c.args.number c.self.invariant w.if-not-self.true
          (kept-asks s i.work i.devices i.softirq c.args.number c.self.invariant w.if-not-self.true polled)
          s.weight_in.0)
      | else-not-self+then-stays+in_ok-push_first w ↦
          rw (c.end_poll.ensures, w.self-inside-is)
          (kept-alone s i.work i.devices _ i.softirq c.self.invariant w.if-not-self.false s.weight_in.0)
      | else-not-self+else-stays w ↦
          rw (c.end_poll.ensures, w.self-inside-is)
          (kept-alone s i.work i.devices _ i.softirq c.self.invariant w.if-not-self.false s.weight_in.0)
    ]
