use Rattle.std.proofs.Common.{◌≤◌, arith}
use Rattle.machine_model.{specs.Shown.{listed}, proofs.ListedFacts.{listed-polled}}
use Rattle.machine_model.proofs.softirq.Softirq.poll_ended.Goals as goal

pub push-requires : goal.push-requires
push-requires c =
    let few : listed c.args.self.now ≤ 64 = rw (← c.self.view_is) c.self.invariant.0 in
    let count = listed-polled c.args.full c.args.given c.args.number c.args.self.now c.requires.asked in
    rw (c.polled.ensures, c.next_after.ensures, c.if-not-full.true) (omega (arith, few, rw c.if-not-full.true at count))
