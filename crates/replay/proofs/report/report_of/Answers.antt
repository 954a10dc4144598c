use Rattle.{std.proofs.Common.refl, replay.specs.ThreadsReport.{opened_devices, threads_report}, replay.proofs.StationFacts.all-lines}
use Rattle.replay.proofs.report.report_of.Goals as goal

pub returns : goal.returns
unfolding threads_report
returns c rows ends =
    let lines = all-lines rows (opened_devices rows) c.args.ends.now ends in
    rw (c.in_ok-add_total.ensures, c.in_ok-add_ends.ensures, c.new-text.ensures.bytes, lines.0, lines.1) refl
