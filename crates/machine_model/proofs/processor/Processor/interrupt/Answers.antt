use Rattle.std.proofs.Common.{◌≡◌, ◌∙◌, ◌+◌, ◌≤◌, true, arith, sym}
use Rattle.device_places.specs.Places.{at}
use Rattle.machine_model.specs.Devices.{asks_at, schedules_at}
use Rattle.machine_model.specs.Kept.{all_scheduled}
use Rattle.machine_model.proofs.{KeptFacts.kept-devices, PlacesFacts.{scheduled-interrupted, scheduled-most}}
use Rattle.machine_model.proofs.processor.Processor.interrupt.Goals as goal

pub schedule-requires-clause-few : goal.schedule-requires-clause-few
schedule-requires-clause-few c =
    let ds = c.self.inside.devices in
    let up : asks_at (at c.args.number ds) ≡ true = rw (← c.self.view_is) at c.requires.asks in
    let own : schedules_at (at c.args.number ds) ≡ true = sym c.schedules-schedules.ensures ∙ c.if-schedules.true in
    let more : all_scheduled ds + 1 ≤ all_scheduled c.interrupt.new.self =
    rw (c.interrupt.ensures.devices, c.if-polling.true)
    (rw own at (scheduled-interrupted c.end_after-ends.result true c.args.number ds up)) in
    omega (arith, c.self.invariant.few, more)

pub schedule-requires-clause-room : goal.schedule-requires-clause-room
schedule-requires-clause-room c =
    let ds = c.self.inside.devices in
    let up : asks_at (at c.args.number ds) ≡ true = rw (← c.self.view_is) at c.requires.asks in
    let own : schedules_at (at c.args.number ds) ≡ true = sym c.schedules-schedules.ensures ∙ c.if-schedules.true in
    let more : all_scheduled ds + 1 ≤ all_scheduled c.interrupt.new.self =
    rw (c.interrupt.ensures.devices, c.if-polling.true)
    (rw own at (scheduled-interrupted c.end_after-ends.result true c.args.number ds up)) in
    omega (arith, c.self.invariant.few, more, scheduled-most c.interrupt.new.self, c.interrupt.ensures.few)

pub invariant_of-self : goal.invariant_of-self
invariant_of-self c =
    let i = c.self.inside in
    let up : asks_at (at c.args.number i.devices) ≡ true = rw (← c.self.view_is) at c.requires.asks in
    rw c.interrupt.ensures.devices
    (kept-devices i.settings i.work i.devices _ i.softirq c.self.invariant
    (omega (arith, scheduled-interrupted c.end_after-ends.result c.is_polling-polling.result c.args.number i.devices up)))

pub invariant_of-self-else-polling : goal.invariant_of-self-else-polling
invariant_of-self-else-polling c =
    let i = c.self.inside in
    let up : asks_at (at c.args.number i.devices) ≡ true = rw (← c.self.view_is) at c.requires.asks in
    rw c.interrupt.ensures.devices
    (kept-devices i.settings i.work i.devices _ i.softirq c.self.invariant
    (omega (arith, scheduled-interrupted c.end_after-ends.result c.is_polling-polling.result c.args.number i.devices up)))
