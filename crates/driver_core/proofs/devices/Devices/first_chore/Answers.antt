use Rattle.std.proofs.Common.{arith, rules}
use Rattle.driver_core.proofs.ChoreFacts.{first_in}
use Rattle.driver_core.proofs.devices.Devices.first_chore.Goals as goal

pub index-requires : goal.index-requires
index-requires c =
    let first = first_in c.args.self.now.all.items c.args.self.now.chores (omega arith) (search rules) c.args.self.now.marks in
    omega (arith, first.0)
