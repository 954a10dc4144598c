use Rattle.std.proofs.Common.{◌≡◌, ◌∙◌, Some, sym, ap, subst}
use Rattle.driver_core.specs.Todo.{ended_in}
use Rattle.driver_core.specs.Driver.{IsEndedEarly}
use Rattle.driver_core.specs.declared.{driver.Driver.Driver, todo.What.What}
use Rattle.driver_core.proofs.driver.Driver.advance_into.Goals as goal

pub returns-in-None-clause-number : goal.returns-in-None-clause-number
returns-in-None-clause-number g c =
    c.after.ensures.number c.args.self.now.number c.finish-report.new.self.number
    (c.finish-report.ensures.number ∙ c.next_device.ensures.number)

pub returns-in-None-clause-ended : goal.returns-in-None-clause-ended
returns-in-None-clause-ended g c = λ start polls report is running on.
    let both : Some c.finish-report.result ≡ Some report = sym c.after.ensures.report ∙ is in
    let this : c.finish-report.result ≡ report = cc both in
    let next = c.next_device.ensures in
    let ended =
    c.finish-report.ensures.ended start polls (next.ending ∙ on) (next.going start polls running)
    (next.over start polls c.in-None.is on running) in
    rw (← this, ← next.limits) ended

pub returns-in-None-clause-early : goal.returns-in-None-clause-early
returns-in-None-clause-early g c = λ start polls report is running ending.
    let both : Some c.finish-report.result ≡ Some report = sym c.after.ensures.report ∙ ap (λ (what : What). ended_in what) is in
    let this : c.finish-report.result ≡ report = cc both in
    let next = c.next_device.ensures in
    let ended = c.finish-report.ensures.early start polls (next.ending ∙ ending) (next.going start polls running) in
    rw (← this) (subst (λ (d : Driver). IsEndedEarly polls d c.finish-report.new.self c.finish-report.result) (next.early ending).1 ended)

pub returns-in-None-clause-stops : goal.returns-in-None-clause-stops
returns-in-None-clause-stops g c = λ ending.
    let squeezed = c.finish-report.ensures.squeezed (c.next_device.ensures.ending ∙ ending) in
    rw (c.after.ensures.squeezed squeezed) squeezed

pub returns-in-None-clause-line : goal.returns-in-None-clause-line
returns-in-None-clause-line g c =
    (c.next_device.new.self.run.repoll, rw (← c.next_device.ensures.line) c.finish-report.ensures.line)
