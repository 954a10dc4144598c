-- What a replay in shared mode did. Its report isn't defined here: tests compare it with that of serial mode.
use Rattle.{std.specs.Prelude.{ℕ, List, Option}, device_places.specs.Places.DeviceTable}
use Rattle.device_bench.specs.{Bench.BenchDevices, Ending.AllEnded}
use Rattle.device_shared.specs.{Ending.IsSideClosed, declared.closed_side.ClosedSide.ClosedSide}
use Rattle.replay_rows.specs.Answer.{OpensDevices}

-- The rows of the bytes read were processed on instances that threads could share, one for each device that they open. Each of
-- these was closed with the one history of all calls on it, and all packets in its ring were polled.
abbrev pub RanShared : Option (List ℕ) → Type 0
RanShared input =
    (devices : BenchDevices) × (ends : DeviceTable ClosedSide) × OpensDevices input devices × AllEnded IsSideClosed devices ends
