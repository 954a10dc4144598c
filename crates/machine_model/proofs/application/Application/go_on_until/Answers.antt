use Rattle.std.proofs.Common.{◌≡◌, ◌∙◌, true, sym}
use Rattle.machine_model.{specs.Application.is_use_over, proofs.ApplicationFacts.{goes-less, went-goes, went-stays}}
use Rattle.machine_model.proofs.application.Application.go_on_until.Goals as goal

pub loop-self-smaller : goal.loop-self-smaller
loop-self-smaller c =
    let over : is_use_over c.args.moment c.loop-self.self ≡ true = sym c.is_over.ensures ∙ c.loop-self-test.true in
    rw c.in_ok-go_on.ensures (goes-less c.args.moment c.args.use_time c.loop-self.self over)

pub loop-self-preserved : goal.loop-self-preserved
loop-self-preserved c =
    let over : is_use_over c.args.moment c.loop-self.self ≡ true = sym c.is_over.ensures ∙ c.loop-self-test.true in
    rw c.in_ok-go_on.ensures (c.loop-self.invariant ∙ went-goes c.args.moment c.args.use_time c.loop-self.self over)

pub returns : goal.returns
returns c =
    sym (c.loop-self.invariant
    ∙ went-stays c.args.moment c.args.use_time c.loop-self.self (sym c.is_over.ensures ∙ c.loop-self-test.false))
