use Rattle.std.{proofs.Common.{refl, rules, arith, w64}, specs.Int.trailing_zeros}
use Rattle.machine_model.proofs.TimerFacts.{walk-end, walk-less, walk-next, walk-start}
use Rattle.machine_model.proofs.devices.soonest_in.Goals as goal

pub walk-init : goal.walk-init
walk-init c = λ mask. walk-start c.args.places.now c.args.timed

pub walk-preserved : goal.walk-preserved
walk-preserved c = λ mask.
    rw (c.sooner-best.ensures, c.timer_of.ensures)
    (walk-next c.args.places.now c.args.timed c.walk.best c.walk.left (trailing_zeros w64 c.walk.left) mask (omega arith) (search rules)
    refl (c.walk.invariant mask))

pub walk-smaller : goal.walk-smaller
walk-smaller c = walk-less c.walk.left (trailing_zeros w64 c.walk.left) (omega arith) (search rules) refl

pub returns : goal.returns
returns c = λ mask.
    walk-end c.args.places.now c.args.timed c.walk.best c.walk.left mask c.requires (omega arith) (c.walk.invariant mask)
