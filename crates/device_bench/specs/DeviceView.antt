-- A device as a record of plain values.
use Rattle.{std.specs.Prelude.Bool, device_bench.specs.{Receive.ReceiveView, declared.counts.DeviceCounts.DeviceCounts}}

pub record DeviceView : Type 0 where
  -- its receive side: its instance and its ring
  pub side : ReceiveView
  -- its threaded setting, which an enable copies to the instance
  pub threaded : Bool
  -- its counts; fields that can be computed from the rest of the record aren't kept up to date
  pub counts : DeviceCounts
