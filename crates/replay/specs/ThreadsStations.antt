-- The stations of the devices that the rows open, and the result of a run on them.
use Rattle.poll_engine.specs.{Runs.HasRun, declared.station.Finished.Finished, declared.station.Station.Station}
use Rattle.poll_engine.specs.Courses.{ArePolled, limits_of}
use Rattle.text_io.specs.{Lines.with_newline, declared.fault.ReplayFault.ReplayFault, declared.fault.ReplayFault.TheVariants.RingTooSmall}
use Rattle.{text_io.specs.declared.settings.ReplaySettings.ReplaySettings, device_rows.specs.declared.row.Row.Row}
use Rattle.replay.specs.{ThreadsReport.{arrived, arrived_line, bytes, opened_devices, side_lines}, declared.polled.Polled.Polled}
use Rattle.replay.specs.{ScriptShown.{Script, acts, script_after, answer, side_of}, Script.{has_thread, opening_of, rx_of, script_of}}
use Rattle.std.specs.{List.{AllZip, find}, Prelude.{◌≡◌, ℕ, ◌+◌, ◌++◌, Bool, List, Option, Some, length, nat_lt, option_map}}

-- the station of a device, before its acts
pub record IsStationOf (rows : List Row) (device : ℕ) (station : Station Script) : Type 0 where
  pub its_number : station.number ≡ device
  pub its_opening : opening_of device rows ≡ Some station.device.opening
  pub its_rows : station.device.rows ≡ script_of device rows
  pub its_made : station.device.made ≡ 0
  pub its_capacity : station.capacity ≡ station.device.opening.value
  pub its_thread : station.thread ≡ has_thread (script_of device rows)

-- the station of a device after its acts, if its ring had room for each packet
pub record IsStationEnd (rows : List Row) (device : ℕ) (end : Finished Script) : Type 0 where
  pub its_number : end.number ≡ device
  pub its_opening : opening_of device rows ≡ Some end.device.opening
  pub its_rows : end.device.rows ≡ script_of device rows
  pub its_made : end.device.made ≡ length end.device.rows
  pub its_put : end.totals.put ≡ arrived device rows
  pub its_bytes : end.totals.bytes ≡ bytes device rows
  pub sum : end.totals.polled + end.totals.left ≡ end.totals.put
  pub its_run : HasRun answer script_after end.device.opening.value (has_thread end.device.rows) (record end.device { made = 0 })
      (length end.device.rows) end.closed end.totals

-- The devices that the rows open ran and were polled, by as many pollers as the settings ask for, with the settings' limits.
pub record AreRunBy (R : Type 0) (asked : ℕ → Type 0) (settings : ReplaySettings) (rows : List Row) (ends : List (Finished Script)) : Type 0
  where
    pub stations : List (Station Script)
    pub are : AllZip (IsStationOf rows) (opened_devices rows) stations
    pub polled : ArePolled R asked
        (limits_of settings.budget settings.weight settings.window) acts answer script_after settings.pollers stations ends

-- the lines of a device in the report
abbrev pub end_lines : Finished Script → List ℕ
end_lines end = with_newline (arrived_line end.number end.totals.put end.totals.bytes)
    ++ side_lines end.number (side_of end.device)

-- more packets arrive at the station than its ring has room for; the next function is the first such station
abbrev pub is_small : Station Script → Bool
is_small station = nat_lt station.capacity (length (rx_of station.device.rows))

abbrev pub small_fault : List (Station Script) → Option ReplayFault
small_fault stations = option_map (λ station. RingTooSmall station.number (length (rx_of station.device.rows))) (find is_small stations)

-- the counts of its polls
abbrev pub polled_of : Finished Script → Polled
polled_of end = record { device = end.number; polled = end.totals.polled; left = end.totals.left }
