-- What a bench shows: its devices, and their transmit sides; and how each poll changes them.
use Rattle.std.specs.Prelude.{◌≡◌, ℕ, true, ◌+◌, ◌≤◌, List}
use Rattle.poll_runs.specs.{Thread.last_next, declared.bench.{BusyReport.BusyReport, Once.Once}}
use Rattle.device_bench.specs.Bench.{BenchDevices, HaveSides, busily_polled_at, busy_report_of, polled_at, thread_polled_at}
use Rattle.device_bench.specs.{Bench.thread_polls_of, Waiting.{is_left_to_list, leaves, one_when, waiting}}
use Rattle.device_bench.specs.{Transmits.{KeepsTransmits, Transmits}, Sides.ShowsSides, declared.bench.DeviceBench.DeviceBench}
use Rattle.{device_bench.specs.declared.receive_side.ReceiveSide.Ghosts, device_places.specs.Places.at}

module _ {S Kit End : Type 0} {g : Ghosts S Kit End} where
  -- the devices of the bench, by number
  abbrev pub devices_of : DeviceBench S Kit End g → BenchDevices
  devices_of bench = bench.devices.items

  -- the bench's transmit sides represent these, one for each of its devices
  pub record ShowsTransmits (bench : DeviceBench S Kit End g) (all : Transmits) : Type 0 where
    pub sides : ShowsSides bench.transmits.items all
    pub each : HaveSides (devices_of bench) all

  -- how many of its devices wait on the poll list
  abbrev pub waiting_of : DeviceBench S Kit End g → ℕ
  waiting_of bench = waiting (devices_of bench)

  -- a poll from the list: its outcome and the devices afterwards are those of the function
  pub record IsListPoll (before : DeviceBench S Kit End g) (number weight : ℕ) (once : Once) (after : DeviceBench S Kit End g) : Type 0
    where
      pub exact : g.exact ≡ true → (once ≡ (polled_at (devices_of before) number weight).0)
          × (devices_of after ≡ (polled_at (devices_of before) number weight).1)
      pub transmits : KeepsTransmits ShowsTransmits before after
      pub waits : g.exact ≡ true → waiting_of before ≤ waiting_of after + leaves once.next

  pub record IsThreadPolls (before : DeviceBench S Kit End g) (number weight most : ℕ) (polls : List Once)
      (after : DeviceBench S Kit End g) : Type 0 where
    pub exact : g.exact ≡ true → (polls ≡ thread_polls_of weight most (at number (devices_of before)))
        × (devices_of after ≡ thread_polled_at (devices_of before) number weight most)
    pub transmits : KeepsTransmits ShowsTransmits before after
    pub waits : g.exact ≡ true → waiting_of before + one_when (is_left_to_list (last_next polls)) ≤ waiting_of after

  pub record IsBusyPoll (before : DeviceBench S Kit End g) (number weight rounds : ℕ) (report : BusyReport)
      (after : DeviceBench S Kit End g) : Type 0 where
    pub exact : g.exact ≡ true → (report ≡ busy_report_of weight rounds (at number (devices_of before)))
        × (devices_of after ≡ busily_polled_at (devices_of before) number weight rounds)
    pub transmits : KeepsTransmits ShowsTransmits before after
    pub waits : g.exact ≡ true → waiting_of before + one_when (is_left_to_list report.next) ≤ waiting_of after
