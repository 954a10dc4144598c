-- The state of a replay after its first n rows, none of which had an error, and what it shows.
use Rattle.std.specs.Prelude.{◌≡◌, ℕ, Bool, List, [], Option, None, Result, Ok, Err, take}
use Rattle.device_bench.specs.{Transmits.{Transmits, is_used}, DeviceBench.ShowsTransmits}
use Rattle.{device_bench.specs.declared.counts.DeviceCounts.DeviceCounts, device_places.specs.Places.at}
use Rattle.device_rows.specs.declared.row.Row.{Row}
use Rattle.replay_rows.specs.{Played.replay_state, Replay.after_all_rows, Report.{reported_counts, last_poll_by}, Transmits.transmits_of}
use Rattle.replay_rows.specs.{RunLog.{list_before, polls_of_row}, ReplayState.ReplayState, declared.line.PollRecord.PollRecord}
use Rattle.replay_rows.specs.declared.serial_replay.SerialReplay.{SerialReplay}
use Rattle.text_io.specs.{declared.fault.ReplayFault.ReplayFault, declared.settings.ReplaySettings.ReplaySettings}

pub record IsAfter (s : ReplaySettings) (rows : List Row) (n : ℕ) (r : SerialReplay) : Type 0 where
  pub state : after_all_rows s (take n rows) ≡ Ok (replay_state r.replay)
  pub transmits : ShowsTransmits r.replay.bench (transmits_of (take n rows))
  pub list : r.log.list.items ≡ list_before s rows n
  pub polls : r.log.polls.items ≡ polls_of_row s rows n

-- what the report of the first n rows shows of a device
abbrev pub device_counts_in : Result ReplayState ReplayFault → Transmits → ℕ → Option DeviceCounts
device_counts_in (Ok w) transmits device = reported_counts w transmits device
device_counts_in (Err fault) transmits device = None

abbrev pub counts_after : ReplaySettings → List Row → ℕ → ℕ → Option DeviceCounts
counts_after s rows n device = device_counts_in (after_all_rows s (take n rows)) (transmits_of (take n rows)) device

-- whether that report shows the device's transmit side
abbrev pub is_used_after : List Row → ℕ → ℕ → Bool
is_used_after rows n device = is_used (at device (transmits_of (take n rows)))

-- what row n did if it polled, by the report of the first n rows
abbrev pub polled_in : Result ReplayState ReplayFault → ℕ → Option PollRecord
polled_in (Ok w) n = last_poll_by n w
polled_in (Err fault) n = None

-- the poll list after the first n rows
abbrev pub list_in : Result ReplayState ReplayFault → List ℕ
list_in (Ok w) = w.list
list_in (Err fault) = []

abbrev pub list_after : ReplaySettings → List Row → ℕ → List ℕ
list_after s rows n = list_in (after_all_rows s (take n rows))

abbrev pub polled_after : ReplaySettings → List Row → ℕ → Option PollRecord
polled_after s rows n = polled_in (after_all_rows s (take n rows)) n
