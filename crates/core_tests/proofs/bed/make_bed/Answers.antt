use Rattle.std.proofs.Common.{Some, sym, ap, ◌∙◌, subst}
use Rattle.rx_ring.specs.{declared.ends.RxIn.RxIn, Ends.IsOneRing}
use Rattle.core_tests.proofs.bed.make_bed.Goals as goal

pub returns-clause-input : goal.returns-clause-input
returns-clause-input g c =
    let bed = c.seat_two.ensures in (
      c.in-Ok.ctx,
      bed.first.ring
          ∙ ap Some c.in-Ok-made.ensures.ring,
      subst (λ (i : RxIn). IsOneRing i c.in-Ok.ctx) (sym bed.bed.1) c.in-Ok.ensures.one,
    )
