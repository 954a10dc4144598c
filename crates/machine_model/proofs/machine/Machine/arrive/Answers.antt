use Rattle.{std.proofs.Common.{rules, sym}, machine_model.proofs.MachineFacts.arrive-exact}
use Rattle.machine_model.proofs.machine.Machine.arrive.Goals as goal

pub returns-clause-arrives : goal.returns-clause-arrives
returns-clause-arrives c =
    let xs = c.self.inside.processors.items in
    let within = rw (← c.self.view_is) at c.requires in
    rw (← c.self.view_is)
    (arrive-exact c.args.moment c.args.device c.len-count.result xs c.index_mut.result.now c.arrive.new.self
    (search rules) within.0 within.1 (sym c.index_mut.ensures.value) c.in_ok-arrive.ensures)
