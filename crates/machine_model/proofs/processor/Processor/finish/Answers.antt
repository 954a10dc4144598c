use Rattle.std.proofs.Common.{refl}
use Rattle.machine_model.proofs.processor.Processor.finish.Goals as goal

pub returns : goal.returns
returns c =
    let ready = c.advance.new.self in
    (ready, c.in_ok-advance.ensures, rw (← c.self.view_is, c.in_ok-go_on_until.ensures) refl)
