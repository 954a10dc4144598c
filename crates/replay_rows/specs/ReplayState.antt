-- The state of a replay as a record of plain values.
use Rattle.{std.specs.Prelude.{ℕ, List}, device_bench.specs.Bench.BenchDevices, replay_rows.specs.declared.line.PollRecord.PollRecord}

pub record ReplayState : Type 0 where
  -- the devices that were opened
  pub devices : BenchDevices
  -- the numbers on the poll list, the next one first
  pub list : List ℕ
  -- one line for each row that polled, in order
  pub lines : List PollRecord
