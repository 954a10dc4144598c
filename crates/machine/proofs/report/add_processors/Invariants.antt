use Rattle.std.proofs.Common.{◌≡◌, ◌++◌, string_bytes}
use Rattle.machine.specs.Report.{lines_of_processors, processor_in, sums_of_processors}
use Rattle.machine.proofs.report.add_processors.Given as goal

abbrev pub invariant-loop-number : goal.invariant-loop-number
invariant-loop-number l = record {
  text : string_bytes l.text ≡ string_bytes l.fn.text ++ lines_of_processors l.settings (processor_in l.machine) l.number;
  totals : l.totals ≡ sums_of_processors (processor_in l.machine) l.fn.totals l.number;
}
