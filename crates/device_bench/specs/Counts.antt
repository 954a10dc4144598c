-- What the report shows of a device.
use Rattle.{std.specs.Prelude.length, napi_model.specs.{Step.seen_of, Word.word_of}, device_bench.specs.Device.device_state}
use Rattle.device_bench.specs.{DeviceView.DeviceView, declared.counts.DeviceCounts.DeviceCounts}
use Rattle.device_bench.specs.declared.transmit.TxCounts.{TxCounts}

-- the counts of the device, the content of its ring, its state word, and the counts of its transmit side
abbrev pub device_counts : DeviceView → TxCounts → DeviceCounts
device_counts d tx = record d.counts {
  state = device_state d;
  left = length d.side.packets;
  word = word_of (seen_of d.side.napi);
  tx = tx;
}
