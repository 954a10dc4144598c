use Rattle.std.proofs.Common.{subst}
use Rattle.driver_core.specs.Driver.{IsTurn}
use Rattle.driver_core.specs.declared.device.Rearm.{Rearm}
use Rattle.c_handles.specs.Drivers.{rearm_in}
use Rattle.c_handles.proofs.StepFacts.{turn_made}
use Rattle.c_handles.proofs.drive.take_turn.Goals as goal

pub returns : goal.returns
returns c =
    let turn = c.turn_into-reported in
    let todo = c.args.todo.now in
    let bits = c.args.interrupts in
    let settled = rw (c.is_some.ensures, c.report_status.ensures.status) at c.settle.ensures.written in
    let same : IsTurn bits todo.number todo.packets (rearm_in todo.rearm) c.args.driver.now turn.result.0 turn.result.1 turn.result.2
    turn.new.self =
    subst (λ (rearm : Rearm). IsTurn bits todo.number todo.packets rearm c.args.driver.now turn.result.0 turn.result.1 turn.result.2
    turn.new.self)
    c.rearm_of-rearm.ensures turn.ensures.turns in
    rw (c.settle.ensures.status, c.report_status.ensures.status) (turn_made bits c.awaits_another-is_other.result todo turn.new.place
    c.settle.new.self c.args.driver.now turn.new.self turn.result.0 turn.result.1 turn.result.2 c.awaits_another-is_other.ensures same
    turn.ensures.takes settled)
