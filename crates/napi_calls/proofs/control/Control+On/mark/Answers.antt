use Rattle.std.proofs.Common.{refl, ◌∙◌}
use Rattle.napi_calls.proofs.{Standing.{control_marked, has_none}, Packets.quiet_step, Making.{nothing, step}}
use Rattle.napi_calls.proofs.control.Control+On.mark.Goals as goal

pub invariant_of-result : goal.invariant_of-result
invariant_of-result c = record {
  controls = control_marked c.mark.new.pass c.args.self.controls c.mark.ensures.step.event;
  has = has_none c.mark.new.pass (c.mark.ensures.step.holds ∙ c.args.self.has.holds);
  exact = refl;
}

pub returns-clause-event : goal.returns-clause-event
returns-clause-event c = step (nothing c.args.self.controls.stands) c.mark.ensures.step

pub returns-clause-packets : goal.returns-clause-packets
returns-clause-packets c = quiet_step c.args.self.pass c.mark.new.pass c.mark.ensures.step.event c.mark.ensures.step.packets
