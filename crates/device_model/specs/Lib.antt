pub use Rattle.device_rows.specs.Failures
pub use Rattle.device_rows.specs.Fault
pub use Rattle.device_rows.specs.Laws
pub use Rattle.device_places.specs.Places
pub use Rattle.device_places.specs.Range
pub use Rattle.device_rows.specs.Record
pub use Rattle.device_rows.specs.Row as Rows
pub use Rattle.device_rows.specs.Source
pub use Rattle.device_rows.specs.Switch
pub use Rattle.device_rows.specs.Trace as Traces
pub use Rattle.device_rows.specs.declared.event.RowEvent as Event
pub use Rattle.device_rows.specs.declared.fault.TraceFault
pub use Rattle.device_rows.specs.declared.row.Row
pub use Rattle.device_rows.specs.declared.trace.Trace
pub use Rattle.device_bench.specs.Transmit
pub use Rattle.device_bench.specs.Transmits
pub use Rattle.device_bench.specs.declared.transmit.TxCounts
pub use Rattle.device_bench.specs.Bench
pub use Rattle.device_bench.specs.Counts
pub use Rattle.device_bench.specs.Device
pub use Rattle.device_bench.specs.DeviceBench
pub use Rattle.device_bench.specs.DeviceView
pub use Rattle.device_bench.specs.Kept
pub use Rattle.device_bench.specs.Receive
pub use Rattle.device_bench.specs.Waiting
pub use Rattle.device_bench.specs.declared.counts.DeviceCounts
pub use Rattle.device_bench.specs.declared.counts.DeviceState
pub use Rattle.replay.specs.Script
pub use Rattle.replay.specs.ScriptShown
pub use Rattle.replay.specs.declared.script.ScriptDevice
