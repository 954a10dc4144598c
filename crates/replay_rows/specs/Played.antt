-- The state of a replay, as a record of plain values.
use Rattle.device_bench.specs.{DeviceBench.devices_of, declared.receive_side.ReceiveSide.Ghosts}
use Rattle.replay_rows.specs.{ReplayState.ReplayState, declared.replay.Replay.Replay}

-- its devices are those that its bench shows
abbrev pub replay_state : {S Kit End : Type 0} {g : Ghosts S Kit End} → Replay S Kit End g → ReplayState
replay_state r = record { devices = devices_of r.bench; list = r.list; lines = r.lines.items }
