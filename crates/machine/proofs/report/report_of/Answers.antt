use Rattle.std.proofs.Common.{◌≡◌, ◌∙◌, ◌*◌, ap, sym}
use Rattle.machine_model.specs.Machine.{device_report}
use Rattle.machine.specs.Report.{processor_in, sums_of_devices, sums_of_processors}
use Rattle.machine.proofs.ReportFacts.{three_parts}
use Rattle.machine.proofs.report.report_of.Goals as goal

pub returns : goal.returns
returns c =
    let processor = processor_in c.args.machine.now in
    let devices = sums_of_devices (λ n. device_report n c.args.machine.now) (64 * c.args.settings.now.processors) in
    let sums : c.add_processors.new.totals ≡ sums_of_processors processor devices c.args.settings.now.processors
    = c.in_ok-add_processors.ensures.totals
    ∙ ap (λ t. sums_of_processors processor t c.args.settings.now.processors) c.in_ok-totals.ensures.totals in
    rw (sym sums)
    (three_parts _ _ _ _ _ _ _ c.new-text.ensures.bytes c.in_ok-totals.ensures.text c.in_ok-add_processors.ensures.text
    c.in_ok-add_totals.ensures)
