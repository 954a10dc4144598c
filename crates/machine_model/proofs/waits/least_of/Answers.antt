use Rattle.std.proofs.Common.{◌∙◌, ◌-◌, ◌*◌, refl, arith}
use Rattle.machine_model.proofs.WaitFacts.{least-fits}
use Rattle.machine_model.proofs.waits.least_of.Goals as goal

pub returns : goal.returns
returns c =
    let rest = c.saturating_sub-rest.result in
    least-fits (c.args.bucket - 512 * rest) rest (omega (arith, c.saturating_sub-rest.ensures, c.requires))
    (omega (arith, c.saturating_sub-rest.ensures, c.requires))
    ∙ (rw c.saturating_sub-rest.ensures refl)
