-- The result of a replay of a text: the report of its rows, or its first error.
use Rattle.std.specs.Prelude.{◌≡◌, ℕ, List, Option, Some, Result, Ok, Err}
use Rattle.device_rows.specs.{Trace.{records_of, trace_of, version_in}, declared.fault.TraceFault.TraceFault, declared.row.Row.Row}
use Rattle.replay_rows.specs.{Report.serial_report, Transmits.transmits_of}
use Rattle.device_bench.specs.Bench.{BenchDevices, HaveSides}
use Rattle.text_io.specs.{declared.fault.ReplayFault.ReplayFault, declared.fault.ReplayFault.TheVariants.{Pending, Trace}}
use Rattle.text_io.specs.declared.settings.ReplaySettings.{ReplaySettings}

abbrev pub serial_result : ReplaySettings → ℕ → Result (List Row) TraceFault → Result (List ℕ) ReplayFault
serial_result s version (Ok rows) = serial_report s version rows
serial_result s version (Err fault) = Err (Trace fault)

abbrev pub replay_of : ReplaySettings → List ℕ → Result (List ℕ) ReplayFault
replay_of s bytes = serial_result s (version_in (records_of bytes)) (trace_of (records_of bytes))

-- ---- what every replay keeps, also one on devices that aren't exact

-- the errors that a replay of a trace can have: the trace's first error; or, if it has none, an enable row that meets a pending
-- disable
abbrev pub CanFail : Result (List Row) TraceFault → ReplayFault → Type 0
CanFail (Err fault) f = f ≡ Trace fault
CanFail (Ok rows) f = (n : ℕ) × (f ≡ Pending n)

abbrev pub IsFaultOfTrace : List ℕ → ReplayFault → Type 0
IsFaultOfTrace bytes fault = CanFail (trace_of (records_of bytes)) fault

-- the bytes read are a trace, and these are exactly the devices that its rows open, each with its transmit side
abbrev pub OpensDevices : Option (List ℕ) → BenchDevices → Type 0
OpensDevices input devices = (bytes : List ℕ) → input ≡ Some bytes
    → (rows : List Row) × (trace_of (records_of bytes) ≡ Ok rows) × HaveSides devices (transmits_of rows)
