use Rattle.std.proofs.Common.{ℕ, refl, add-one, subst}
use Rattle.napi_c.specs.Rules.{Fails}
use Rattle.napi_c.proofs.attempts.repeat.Goals as goal

pub loop-init : goal.loop-init
unfolding Fails
loop-init g c = refl

pub loop-preserved : goal.loop-preserved
unfolding Fails
loop-preserved g c =
    let attempt = λ (n : ℕ). g.A.Attempt.makes c.args.attempt.now c.loop.it n c.make-status.new.it in
    let failed = subst attempt c.if-status-ne-CHANGED.false c.make-status.ensures in
    rw add-one (c.loop.it, c.loop.invariant, failed)
