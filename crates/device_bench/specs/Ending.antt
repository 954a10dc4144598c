-- The end of a bench whose receive sides are linear.
use Rattle.{std.specs.Prelude.{ℕ, Option, Some, None}, device_places.specs.Places.{DeviceTable, at}}
use Rattle.device_bench.specs.{Bench.BenchDevices, DeviceView.DeviceView}

-- the device of an entry was ended, and left this; an empty entry left nothing
abbrev pub IsEndedAt : {End : Type 0} → (End → Type 0) → Option DeviceView → Option End → Type 0
IsEndedAt ended (Some d) (Some end) = ended end
IsEndedAt ended None None = Unit {0}
IsEndedAt ended (Some d) None = ⊥
IsEndedAt ended None (Some end) = ⊥

-- all devices were ended, and left these
abbrev pub AllEnded : {End : Type 0} → (End → Type 0) → BenchDevices → DeviceTable End → Type 0
AllEnded ended devices ends = (number : ℕ) → IsEndedAt ended (at number devices) (at number ends)
