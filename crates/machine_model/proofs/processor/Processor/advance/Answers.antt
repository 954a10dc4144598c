use Rattle.std.proofs.Common.{◌≡◌, ◌∙◌, suc, true, ap, refl, sym, arith}
use Rattle.machine_model.{specs.Processor.{processor_after, is_due, step}, proofs.{LeftFacts.step-less, StepFacts.each-more}}
use Rattle.machine_model.proofs.processor.Processor.advance.Goals as goal

pub loop-self-init : goal.loop-self-init
unfolding processor_after
loop-self-init c = (0, λ n below. absurd (omega (arith, below)), refl)

pub loop-self-smaller : goal.loop-self-smaller
loop-self-smaller c =
    let p = c.loop-self.self in
    let due : is_due c.args.moment p ≡ true = sym c.is_due.ensures.due ∙ c.loop-self-test.true in
    rw c.in_ok-step.ensures (step-less c.args.moment p c.is_due.ensures.kept due)

pub loop-self-preserved : goal.loop-self-preserved
unfolding processor_after
loop-self-preserved c =
    let i = c.loop-self.invariant in
    let due : is_due c.args.moment c.loop-self.self ≡ true = sym c.is_due.ensures.due ∙ c.loop-self-test.true in
    (suc i.0, each-more c.args.moment c.args.self.now i.0 i.1 (rw i.2 at due), c.in_ok-step.ensures ∙ ap step i.2)
