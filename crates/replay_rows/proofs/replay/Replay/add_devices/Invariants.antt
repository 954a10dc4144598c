use Rattle.std.proofs.Common.{◌≡◌, true, ◌++◌, string_bytes}
use Rattle.device_bench.specs.DeviceBench.{ShowsTransmits}
use Rattle.{device_bench.specs.Transmits.Transmits, replay_rows.specs.{Played.replay_state, Report.{lines_below, lines_of}}}
use Rattle.replay_rows.proofs.replay.Replay.add_devices.Given as goal

abbrev pub invariant-loop-number : goal.invariant-loop-number
invariant-loop-number g l = g.S.ReceiveSide.exact ≡ true → (all : Transmits) → ShowsTransmits l.self.bench all
    → string_bytes l.text
    ≡ string_bytes l.initial.text ++ lines_below (lines_of l.version (replay_state l.self) all) l.number
