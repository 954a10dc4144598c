use Rattle.std.proofs.Common.{◌≡◌, ◌++◌, string_bytes}
use Rattle.machine_model.specs.Machine.{device_report}
use Rattle.machine.specs.Report.{lines_of_devices, sums_of_devices}
use Rattle.machine.proofs.report.add_devices.Given as goal

abbrev pub invariant-loop-before : goal.invariant-loop-before
invariant-loop-before l = record {
  text : string_bytes l.text ≡ string_bytes l.fn.text ++ lines_of_devices (λ n. device_report n l.machine) l.before;
  totals : l.totals ≡ sums_of_devices (λ n. device_report n l.machine) l.before;
}
