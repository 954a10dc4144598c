use Rattle.std.proofs.{Common.{arith}, lemmas.Grind.common_steps}
use Rattle.device_shared.{proofs.ClosingFacts.{ring_closed, side_closed}, specs.Callers.control_pass}
use Rattle.device_shared.proofs.shared_receive.SharedReceiveReceiveSide.end.Goals as goal

pub returns : goal.returns
returns g c =
    let i = c.self.inside in
    let control = c.disable-poller.result.2 in
    let one =
    ring_closed i.input (control_pass i.control) control.pass c.close-ctx.result control.state.ctx c.self.invariant.0.control_fed
    c.disable-poller.ensures.control c.close-ctx.ensures.ctx control.has.ring in
    side_closed _ c.close-ctx.result (grind (arith, common_steps)) i.input one c.empty.new.input c.empty.new.ctx c.empty.ensures.ctx
    c.empty.ensures.put c.empty.ensures.polled c.finish-totals.ensures.totals

pub invariant_of-result : goal.invariant_of-result
invariant_of-result g c = record { closed = ∣ (c.close-ctx.result, grind (arith, common_steps)) ∣₁ }
