use Rattle.std.proofs.Common.{◌≡◌, ◌++◌, ◌∷◌, List, [], length, sym, subst, arith, rules}
use Rattle.std.proofs.Math.ListN.{length-set}
use Rattle.driver_core.specs.{Queue.{IsStillDue}, declared.device.DriverDevice.DriverDevice}
use Rattle.driver_core.proofs.QueueFacts.{put_asked, put_new}
use Rattle.driver_core.proofs.driver.Driver.put_listed.Goals as goal

pub invariant_of-self-clause-counted : goal.invariant_of-self-clause-counted
invariant_of-self-clause-counted c =
    let self = c.args.self.now in
    let set : length c.put.new.self.all.items ≡ length self.devices.all.items =
    rw c.put.ensures (length-set self.devices.all.items c.args.device c.args.to) in
    omega (arith, self.counted, set)

pub invariant_of-self-clause-paced : goal.invariant_of-self-clause-paced
invariant_of-self-clause-paced c =
    let self = c.args.self.now in
    let set : length c.put.new.self.all.items ≡ length self.devices.all.items =
    rw c.put.ensures (length-set self.devices.all.items c.args.device c.args.to) in
    omega (arith, self.paced, set)

pub invariant_of-self-clause-queue : goal.invariant_of-self-clause-queue
invariant_of-self-clause-queue c =
    let self = c.args.self.now in
    let kept =
    put_new self.devices.all.items self.list self.run c.args.device c.args.to c.requires.range c.requires.before c.requires.after
    self.queue in
    let pushed : c.push.new.self ≡ self.list ++ c.args.device ∷ [] = search rules in
    rw (c.put.ensures, pushed) kept

pub invariant_of-self-clause-asks : goal.invariant_of-self-clause-asks
invariant_of-self-clause-asks c =
    let self = c.args.self.now in
    subst (λ (devices : List DriverDevice). IsStillDue devices self.run.asked c.still_due-self.result) (sym c.put.ensures)
    (put_asked self.devices.all.items self.run.asked self.said c.still_due-self.result c.args.device c.args.to c.requires.range
    c.still_due-self.ensures.kept c.still_due-self.ensures.due self.asks)
