use Rattle.driver_core.proofs.QueueFacts.{said_due}
use Rattle.driver_core.proofs.driver.Driver.ask_into.Goals as goal

pub invariant_of-self-clause-asks : goal.invariant_of-self-clause-asks
invariant_of-self-clause-asks g c =
    let self = c.args.self.now in
    said_due self.devices.all.items self.run.asked c.in-Some.device c.in-Some.chore c.in-Some.ensures.range c.in-Some.ensures.found
    c.requires.free.1
