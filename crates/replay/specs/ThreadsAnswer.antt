-- The result of a replay of a text with threads: the report of its rows in threads mode, or its first error.
use Rattle.std.specs.Prelude.{◌≡◌, ℕ, ◌+◌, List, Bool, Option, Some, None, Result, Ok, Err, map, nat_lt, option_map}
use Rattle.std.specs.List.{AllZip, find}
use Rattle.poll_engine.specs.{declared.station.Finished.Finished, Refusals.IsRefused, declared.fault.WorkFault.WorkFault}
use Rattle.text_io.specs.{declared.settings.ReplaySettings.ReplaySettings, Outside.IsReplayOutOfMemory}
use Rattle.text_io.specs.declared.fault.ReplayFault.{ReplayFault}
use Rattle.text_io.specs.declared.fault.ReplayFault.TheVariants.{GateShut, RingTooSmall, SpawnFailed, Trace}
use Rattle.device_rows.specs.{Trace.{records_of, trace_of}, declared.TraceFault.TraceFault, declared.row.Row.Row}
use Rattle.replay.specs.{ThreadsReport.{arrived, opened_devices, threads_report}, ThreadsStations.{AreRunBy, IsStationEnd, polled_of}}
use Rattle.replay.specs.{declared.polled.Polled.Polled, ScriptShown.Script, Script.opening_of}
use Rattle.text_io.specs.Outside.{IsOutside as IsSerialOutside}
use Rattle.poll_engine.specs.declared.fault.WorkFault.TheVariants as work

-- the capacity of a device's receive ring
abbrev pub places_by : Option Row → ℕ
places_by None = 0
places_by (Some opening) = opening.value

-- more packets arrive at the device than its ring can hold
abbrev pub overflows : List Row → ℕ → Bool
overflows rows device = nat_lt (places_by (opening_of device rows)) (arrived device rows)

-- the first device whose ring is too small
abbrev pub ring_fault : List Row → Option ReplayFault
ring_fault rows = option_map (λ device. RingTooSmall device (arrived device rows)) (find (overflows rows) (opened_devices rows))

abbrev pub unless_small : Option ReplayFault → List ℕ → Result (List ℕ) ReplayFault
unless_small None text = Ok text
unless_small (Some fault) text = Err fault

abbrev pub threads_result : Result (List Row) TraceFault → Result (List ℕ) ReplayFault
threads_result (Ok rows) = unless_small (ring_fault rows) (threads_report rows)
threads_result (Err fault) = Err (Trace fault)

abbrev pub threads_of : List ℕ → Result (List ℕ) ReplayFault
threads_of bytes = threads_result (trace_of (records_of bytes))

-- the reader, an allocation, the writer or a thread failed; or the gate stopped the run, if the gate may do that
abbrev pub IsThreadsOutside : Type 0 → ReplayFault → Type 0
IsThreadsOutside may_shut GateShut = may_shut
IsThreadsOutside may_shut SpawnFailed = IsRefused
IsThreadsOutside may_shut fault = IsSerialOutside fault

-- the error of a run, and the error of the replay that reports it
abbrev pub IsReportedAs : WorkFault → ReplayFault → Type 0
IsReportedAs work.OutOfMemory told = IsReplayOutOfMemory told
IsReportedAs work.GateShut told = told ≡ GateShut
IsReportedAs work.SpawnFailed told = told ≡ SpawnFailed

-- the packets of a device that were polled, and those left, are the packets that arrived there
pub record IsPolledDevice (rows : List Row) (device : ℕ) (polled : Polled) : Type 0 where
  pub same_device : polled.device ≡ device
  pub sum : polled.polled + polled.left ≡ arrived device rows

-- Devices with these counts ended as the rows say, each with the one history of its closed instance. They were polled by as many
-- pollers as the settings say, with their numbers.
abbrev pub IsRunBy : Type 0 → (ℕ → Type 0) → ReplaySettings → List Row → List Polled → Type 0
IsRunBy R asked settings rows told = (ends : List (Finished Script))
    × AllZip (IsStationEnd rows) (opened_devices rows) ends × AreRunBy R asked settings rows ends × (told ≡ map polled_of ends)

-- the same for the rows of the bytes read
abbrev pub RanBy : Type 0 → (ℕ → Type 0) → ReplaySettings → Option (List ℕ) → List Polled → Type 0
RanBy R asked settings input told =
    (bytes : List ℕ) → input ≡ Some bytes → (rows : List Row) × (trace_of (records_of bytes) ≡ Ok rows) × IsRunBy R asked settings rows told
