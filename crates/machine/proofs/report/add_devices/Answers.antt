use Rattle.std.proofs.Common.{◌∙◌, ◌*◌, ◌≤◌, arith, length, string_bytes}
use Rattle.machine_model.specs.Machine.{device_report}
use Rattle.machine.proofs.ReportFacts.{no_device_sum, no_devices, one_device, one_device_sum}
use Rattle.machine.proofs.report.add_devices.Goals as goal

pub loop-before-init : goal.loop-before-init
loop-before-init c = record {
  text = no_devices (λ n. device_report n c.args.machine.now) (string_bytes c.args.text.now);
  totals = c.none-totals.ensures ∙ no_device_sum (λ n. device_report n c.args.machine.now);
}

pub loop-before-preserved : goal.loop-before-preserved
loop-before-preserved c = record {
  text = one_device (λ n. device_report n c.args.machine.now) c.loop-before.before c.device-device.result _ _ _ c.device-device.ensures
      c.loop-before.invariant.text c.in_ok-add_place.ensures.text;
  totals =
      one_device_sum (λ n. device_report n c.args.machine.now) c.loop-before.before c.device-device.result _ _ c.device-device.ensures
      c.loop-before.invariant.totals c.in_ok-add_place.ensures.totals;
}

pub device-device-requires : goal.device-device-requires
device-device-requires c =
    let few : c.args.devices ≤ 64 * length c.args.machine.now = c.requires in
    (omega arith, omega (arith, few, c.loop-before-test.true))
