use Rattle.{std.specs.Prelude.flat_map, device_bench.specs.Bench.attached, replay_rows.specs.{Played.replay_state, Report.lines_below}}
use Rattle.device_bench.specs.DeviceBench.{devices_of}
use Rattle.replay_rows.{specs.Report.{lines_of, list_line, poll_line, text_by, total_line, run_totals}, proofs.PlayFacts.four-parts}
use Rattle.text_io.specs.Lines.{with_newline}
use Rattle.replay_rows.proofs.replay.Replay.report.Goals as goal

pub returns : goal.returns
unfolding text_by
returns g c x all shows =
    rw (
      c.in_ok-add_totals.ensures,
      c.in_ok-add_list.ensures,
      c.in_ok-add_devices.ensures x all shows,
      c.in_ok-add_lines.ensures,
      c.new-text.ensures.bytes,
      c.of-totals.ensures,
      c.attached.ensures.devices,
      c.ids.ensures.ids,
      c.as_slice.ensures.value,
      c.as_slice-2.ensures.value,
    )
    (four-parts
    (flat_map (λ line. with_newline (poll_line line)) c.args.self.now.lines.items)
    (lines_below (lines_of c.args.version (replay_state c.args.self.now) all) 17)
    (with_newline (list_line c.args.self.now.list))
    (with_newline (total_line (run_totals (attached (devices_of c.args.self.now.bench)) c.args.self.now.lines.items))))
