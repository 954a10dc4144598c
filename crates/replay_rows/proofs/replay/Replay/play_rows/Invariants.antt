use Rattle.std.proofs.Common.{◌≡◌, true, ◌≤◌, Ok, length, take}
use Rattle.device_bench.specs.DeviceBench.{ShowsTransmits}
use Rattle.device_bench.specs.Transmits.{Changes}
use Rattle.replay_rows.specs.{Played.replay_state, Replay.{after_rows, start}, Transmits.after_transmits}
use Rattle.replay_rows.proofs.replay.Replay.play_rows.Given as goal

abbrev pub invariant-loop-i : goal.invariant-loop-i
invariant-loop-i g l = record {
  played : g.S.ReceiveSide.exact ≡ true → after_rows l.settings 1 (take l.i l.rows) start ≡ Ok (replay_state l.self);
  transmits : Changes ShowsTransmits (after_transmits (take l.i l.rows)) l.fn.self.bench l.self.bench;
  lines : length l.self.lines.items ≤ l.i;
}
