use Rattle.std.proofs.Common.{rules}
use Rattle.driver_core.proofs.ChoreFacts.{other_only}
use Rattle.driver_core.proofs.devices.Devices.only_mask.Goals as goal

pub returns-then-others-ne0-clause-none : goal.returns-then-others-ne0-clause-none
returns-then-others-ne0-clause-none c =
    let cleared = c.clear_bit-others.ensures in
    other_only c.args.self.now.all.items c.args.self.now.chores c.clear_bit-others.result c.in-Some.device c.in-Some._chore
    c.args.self.now.marks c.if-others-ne0.true (search rules) cleared.same cleared.others c.in-Some.ensures.found
