use Rattle.std.proofs.Common.{Some, string_bytes}
use Rattle.machine.specs.Report.{processor_in}
use Rattle.machine.proofs.ReportFacts.{no_processor_sum, no_processors, one_processor, one_processor_sum}
use Rattle.machine.proofs.report.add_processors.Goals as goal

pub loop-number-init : goal.loop-number-init
loop-number-init c = record {
  text = no_processors c.args.settings.now (processor_in c.args.machine.now) (string_bytes c.args.text.now);
  totals = no_processor_sum (processor_in c.args.machine.now) c.args.totals.now;
}

pub loop-number-preserved : goal.loop-number-preserved
loop-number-preserved c = record {
  text = one_processor c.args.settings.now (processor_in c.args.machine.now) c.loop-number.number
      (Some c.processor-processor.result) _ _ _ c.processor-processor.ensures c.loop-number.invariant.text
      c.in_ok-add_processor.ensures;
  totals =
      one_processor_sum (processor_in c.args.machine.now) c.args.totals.now c.loop-number.number
      (Some c.processor-processor.result) _ _ c.processor-processor.ensures
      c.loop-number.invariant.totals c.count_processor.ensures;
}
