use Rattle.driver_core.proofs.TurnFacts.{one_reported}
use Rattle.driver_core.proofs.driver.Driver.report_each.Goals as goal

pub loop-preserved : goal.loop-preserved
loop-preserved c =
    let lowest = c.lowest_bit-device.ensures in
    let cleared = c.clear_bit-left.ensures in
    let one = c.report_interrupt.ensures in
    one_reported c.loop.counter c.args.interrupts c.loop.left c.clear_bit-left.result c.lowest_bit-device.result c.args.self.now
    c.loop.self c.report_interrupt.new.self c.loop.invariant c.loop-test.true lowest.small lowest.set lowest.below cleared.same
    cleared.others one.known one.unknown
