use Rattle.std.proofs.Common.{◌≡◌, ◌+◌, append_assoc, append-nil, arith, suc, sym}
use Rattle.replay_rows.specs.Report.{lines_below}
use Rattle.napi_series.proofs.line.add_all_gave.Goals as goal

pub loop-device-init : goal.loop-device-init
unfolding lines_below
loop-device-init c = sym (simp append-nil)

pub loop-device-preserved : goal.loop-device-preserved
unfolding lines_below
loop-device-preserved c =
    let next : c.loop-device.device + 1 ≡ suc c.loop-device.device = omega arith in
    rw (next, c.in_ok-add_run_gave.ensures, c.loop-device.invariant) (simp append_assoc)
