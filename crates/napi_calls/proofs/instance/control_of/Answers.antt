use Rattle.napi_calls.proofs.{Fresh.{new_controls, new_exact}, Standing.{controls_moved, outside}}
use Rattle.napi_calls.proofs.instance.control_of.Goals as goal

pub invariant_of-result : goal.invariant_of-result
invariant_of-result c =
    let e = c.slot_out-ctx.ensures in record {
      controls = controls_moved c.slot_out-ctx.new.pass (new_controls c.args.pass c.requires.1) e.keeps.view;
      has = outside c.args.pass c.slot_out-ctx.new.pass _ e.holds e.keeps.view e.ring e.received;
      exact = new_exact c.args.pass c.slot_out-ctx.new.pass c.slot_out-ctx.result c.requires.1 e.ctx e.keeps.view;
    }
