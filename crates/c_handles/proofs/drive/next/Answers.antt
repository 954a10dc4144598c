use Rattle.std.proofs.Common.{refl}
use Rattle.std.specs.Prelude.{is_some}
use Rattle.driver_core.specs.Driver.{polled_device}
use Rattle.c_handles.proofs.StepFacts.{next_made}
use Rattle.c_handles.proofs.drive.next.Goals as goal

pub returns : goal.returns
returns c =
    let next = c.next_into in
    let settled = rw (c.is_some-mask.ensures, c.polled.ensures) at c.settle.ensures.written in (
      c.settle.ensures.status,
      next_made (is_some (polled_device c.args.driver.now)) next.new.place c.settle.new.self c.args.driver.now next.new.self next.result
          next.ensures.asks next.ensures.takes settled,
    )
