use Rattle.std.proofs.Common.{subst}
use Rattle.driver_core.specs.Driver.{IsStep}
use Rattle.driver_core.specs.declared.device.Rearm.{Rearm}
use Rattle.c_handles.specs.Drivers.{rearm_in}
use Rattle.c_handles.proofs.StepFacts.{step_made}
use Rattle.c_handles.proofs.drive.step.Goals as goal

pub returns : goal.returns
returns c =
    let step = c.step_into-reported in
    let todo = c.args.todo.now in
    let settled = rw c.report_status.ensures.status at c.settle.ensures.written in
    let same : IsStep todo.number todo.packets (rearm_in todo.rearm) c.args.driver.now step.result.0 step.result.1 step.new.self =
    subst (λ (rearm : Rearm). IsStep todo.number todo.packets rearm c.args.driver.now step.result.0 step.result.1 step.new.self)
    c.rearm_of-rearm.ensures step.ensures.steps in
    rw (c.settle.ensures.status, c.report_status.ensures.status) (step_made c.awaits_another-is_other.result todo step.new.place
    c.settle.new.self c.args.driver.now step.new.self step.result.0 step.result.1 c.awaits_another-is_other.ensures same
    step.ensures.takes settled)
