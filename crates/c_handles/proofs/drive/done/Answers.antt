use Rattle.std.proofs.Common.{subst}
use Rattle.driver_core.specs.Driver.{IsDone}
use Rattle.driver_core.specs.declared.device.Rearm.{Rearm}
use Rattle.c_handles.specs.Drivers.{rearm_in}
use Rattle.c_handles.proofs.StepFacts.{todo_report}
use Rattle.c_handles.proofs.drive.done.Goals as goal

pub returns : goal.returns
returns c =
    let done = c.done-reported.ensures in
    let todo = c.args.todo.now in
    let is : IsDone todo.number todo.packets c.rearm_of.result c.args.driver.now c.done-reported.result c.done-reported.new.self = record {
      when = done.when;
      ok = done.ok;
      free = done.free;
      len = done.len;
      going = done.going;
      err = done.err;
      many = done.many;
    } in
    let same : IsDone todo.number todo.packets (rearm_in todo.rearm) c.args.driver.now c.done-reported.result c.done-reported.new.self =
    subst (λ (rearm : Rearm). IsDone todo.number todo.packets rearm c.args.driver.now c.done-reported.result c.done-reported.new.self)
    c.rearm_of.ensures is in
    rw c.report_status.ensures.status (todo_report todo.number todo.packets todo.rearm c.args.driver.now c.done-reported.new.self
    c.done-reported.result same)
