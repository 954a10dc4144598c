use Rattle.std.proofs.Common.{◌∙◌, refl, subst, sym}
use Rattle.device_bench.specs.{Owner.IsOurs, declared.device.TheConstants.CONTROLLER}
use Rattle.device_bench.proofs.serial_receive.SerialReceiveReceiveSide.set_threaded.Goals as goal

pub invariant_of-self : goal.invariant_of-self
invariant_of-self c =
    let step = (c.set_threaded.ensures.step CONTROLLER).legal.1 in
    (c.set_threaded.ensures.controller ∙ c.self.invariant.0, subst IsOurs (sym step) c.self.invariant.1)

pub returns : goal.returns
returns c = record { side = λ x. rw (← c.self.view_is, (c.set_threaded.ensures.step CONTROLLER).legal.1) refl }
