-- The devices of a bench, and the effect of its calls and polls on them.
use Rattle.std.specs.Prelude.{◌≡◌, ℕ, List, [], Option, Some, None, is_some, filter, length, map}
use Rattle.napi_model.specs.declared.state.Kind.{Kind}
use Rattle.poll_runs.specs.{Polling.no_report, declared.bench.BusyReport.BusyReport}
use Rattle.poll_runs.specs.{declared.bench.Next.TheVariants.Absent, declared.bench.Once.Once}
use Rattle.device_bench.specs.{Counts.device_counts, Device.{device_after_packet, polled_busily, polled_by_thread, polled_once, settled}}
use Rattle.device_bench.specs.{DeviceView.DeviceView, declared.counts.DeviceCounts.DeviceCounts, declared.transmit.TxCounts.TxCounts}
use Rattle.{device_bench.specs.Transmits.Transmits, device_places.specs.Places.{DeviceTable, at, changed}}

abbrev pub BenchDevices : Type 0
BenchDevices = DeviceTable DeviceView

-- ---- packets

abbrev pub after_arrival : ℕ → ℕ → BenchDevices → BenchDevices
after_arrival number bytes devices = changed (λ d. (device_after_packet bytes d).1) number devices

-- the queue in which a packet's interrupt puts the instance of its device, if any
abbrev pub handed_by : ℕ → Option DeviceView → Option Kind
handed_by bytes None = None
handed_by bytes (Some d) = (device_after_packet bytes d).0

-- ---- polls

-- the outcome of a poll of a number; Absent if it has no device
abbrev pub once_of : ℕ → Option DeviceView → Once
once_of weight None = record { work = 0; next = Absent }
once_of weight (Some d) = (polled_once weight d).0

-- a poll from the list as a function of the devices: its outcome, and the devices afterwards
abbrev pub polled_at : BenchDevices → ℕ → ℕ → Once × BenchDevices
polled_at devices number weight = (once_of weight (at number devices), changed (λ d. (polled_once weight d).1) number devices)

abbrev pub thread_polls_of : ℕ → ℕ → Option DeviceView → List Once
thread_polls_of weight most None = []
thread_polls_of weight most (Some d) = (polled_by_thread most weight d).0

-- the polling of a device by its thread, as a function of the devices: its polls, and the devices afterwards
abbrev pub thread_polled_at : BenchDevices → ℕ → ℕ → ℕ → BenchDevices
thread_polled_at devices number weight most = changed (λ d. (polled_by_thread most weight d).1) number devices

-- busy polling of a device, as a function of the devices: its report, and the devices afterwards
abbrev pub busy_report_of : ℕ → ℕ → Option DeviceView → BusyReport
busy_report_of weight rounds None = no_report
busy_report_of weight rounds (Some d) = (polled_busily rounds weight d).0

abbrev pub busily_polled_at : BenchDevices → ℕ → ℕ → ℕ → BenchDevices
busily_polled_at devices number weight rounds = changed (λ d. (polled_busily rounds weight d).1) number devices

-- ---- disabling

abbrev pub settled_at : Option DeviceView → Option DeviceView
settled_at None = None
settled_at (Some d) = Some (settled d)

-- each pending disable is tried once, in the order of device numbers
abbrev pub all_settled : BenchDevices → BenchDevices
all_settled devices = map settled_at devices

-- ---- the report

-- how many entries of a table are occupied
abbrev pub attached : {A : Type 0} → DeviceTable A → ℕ
attached places = length (filter is_some places)

-- each number has a transmit side exactly if it has a device
abbrev pub HaveSides : {A : Type 0} → DeviceTable A → Transmits → Type 0
HaveSides devices all = (number : ℕ) → is_some (at number all) ≡ is_some (at number devices)

-- the counts of a device, if the number has one
abbrev pub counts_at : Option DeviceView → TxCounts → Option DeviceCounts
counts_at None tx = None
counts_at (Some d) tx = Some (device_counts d tx)
