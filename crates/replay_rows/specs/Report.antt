-- The text of the report. See docs/FORMATS.md, "The report".
use Rattle.replay_rows.specs.{TransmitLine.tx_lines, Replay.after_all_rows, Transmits.transmits_of, ReplayState.ReplayState}
use Rattle.replay_rows.specs.{declared.report.RunTotals.RunTotals, declared.line.PollRecord.PollRecord}
use Rattle.replay_rows.specs.declared.line.PollRecord.TheVariants.{Softirq, Kthread, Busy}
use Rattle.std.specs.Prelude.{ℕ, zero, suc, ◌-◌, ◌==◌, Bool, length, slice_get, List, [], ◌∷◌, ◌++◌, Option, Some, None, Result, Ok}
use Rattle.std.specs.Prelude.{Err, codes, decimal, flat_map, if◌then◌else◌, sum_by}
use Rattle.device_bench.specs.{Transmits.{Transmits, is_used, tx_counts_of}, Bench.{attached, counts_at}}
use Rattle.device_bench.specs.{declared.counts.DeviceCounts.DeviceCounts, declared.counts.DeviceState.DeviceState}
use Rattle.device_bench.specs.declared.counts.DeviceState.TheVariants.{On, Off, Pending}
use Rattle.{device_places.specs.Places.at, device_rows.specs.declared.row.Row.Row}
use Rattle.text_io.specs.{declared.fault.ReplayFault.ReplayFault, Lines.{with_newline, flag, words}}
use Rattle.{text_io.specs.declared.settings.ReplaySettings.ReplaySettings, poll_runs.specs.declared.run.RunReport.RunReport}

-- the line of a row that polled
abbrev pub poll_line : PollRecord → List ℕ
poll_line (Softirq row run) = words (codes "softirq" ∷ decimal row ∷ codes "polls" ∷ decimal run.polls ∷ codes "work" ∷ decimal run.work
    ∷ codes "squeezed" ∷ decimal (flag run.squeezed) ∷ [])
poll_line (Kthread row device report) =
    words (codes "kthread" ∷ decimal row ∷ codes "device" ∷ decimal device ∷ codes "polls" ∷ decimal report.polls
    ∷ codes "work" ∷ decimal report.work ∷ [])
poll_line (Busy row device report) =
    words (codes "busy" ∷ decimal row ∷ codes "device" ∷ decimal device ∷ codes "polls" ∷ decimal report.polls
    ∷ codes "work" ∷ decimal report.work ∷ [])

-- the name of a device's state
abbrev pub state_word : DeviceState → List ℕ
state_word On = codes "on"
state_word Off = codes "off"
state_word Pending = codes "pending"

abbrev pub device_line : ℕ → DeviceCounts → List ℕ
device_line number counts =
    words (codes "device" ∷ decimal number ∷ state_word counts.state ∷ codes "arrived" ∷ decimal counts.arrived
    ∷ codes "dropped" ∷ decimal counts.dropped
    ∷ codes "polled" ∷ decimal counts.polled ∷ codes "bytes" ∷ decimal counts.bytes ∷ codes "left" ∷ decimal counts.left
    ∷ codes "polls" ∷ decimal counts.polls ∷ [])

-- in version 2, the line also has the completions that returned Held
abbrev pub held_part : ℕ → ℕ → List ℕ
held_part version held = if version == 2 then codes " held " ++ decimal held else []

abbrev pub napi_line : ℕ → ℕ → DeviceCounts → List ℕ
napi_line version number counts =
    words (codes "napi" ∷ decimal number ∷ codes "granted" ∷ decimal counts.granted ∷ codes "missed" ∷ decimal counts.missed
    ∷ codes "disabled" ∷ decimal counts.disabled ∷ codes "again" ∷ decimal counts.again ∷ codes "released" ∷ decimal counts.released
    ∷ codes "word" ∷ decimal counts.word ∷ []) ++ held_part version counts.held

-- the lines of a device, if there is one: two, and a third one only if its transmit side had a tx or done row
abbrev pub device_lines : ℕ → ℕ → Bool → Option DeviceCounts → List ℕ
device_lines version number used None = []
device_lines version number used (Some counts) =
    with_newline (device_line number counts) ++ (with_newline (napi_line version number counts) ++ tx_lines number used counts.tx)

-- the numbers, each preceded by a space
abbrev pub spaced : List ℕ → List ℕ
spaced numbers = flat_map (λ number. codes " " ++ decimal number) numbers

abbrev pub list_line : List ℕ → List ℕ
list_line numbers = codes "list" ++ spaced numbers

-- a number of a softirq run; 0 for a thread's polling and for busy polling, which aren't runs
abbrev pub of_run : (RunReport → ℕ) → PollRecord → ℕ
of_run number (Softirq row run) = number run
of_run number (Kthread row device report) = 0
of_run number (Busy row device report) = 0

-- the number of opened devices and of runs, and sums over the runs
abbrev pub run_totals : ℕ → List PollRecord → RunTotals
run_totals devices lines = record {
  devices = devices;
  runs = sum_by (of_run (λ run. 1)) lines;
  polls = sum_by (of_run (λ run. run.polls)) lines;
  work = sum_by (of_run (λ run. run.work)) lines;
  squeezed = sum_by (of_run (λ run. flag run.squeezed)) lines;
}

abbrev pub total_line : RunTotals → List ℕ
total_line totals = words (codes "total" ∷ codes "devices" ∷ decimal totals.devices ∷ codes "runs" ∷ decimal totals.runs
    ∷ codes "polls" ∷ decimal totals.polls ∷ codes "work" ∷ decimal totals.work ∷ codes "squeezed" ∷ decimal totals.squeezed ∷ [])

-- what the report shows of device n
abbrev pub reported_counts : ReplayState → Transmits → ℕ → Option DeviceCounts
reported_counts w transmits n = counts_at (at n w.devices) (tx_counts_of (at n transmits))

-- the number of the row that a line is about
abbrev pub record_row : PollRecord → ℕ
record_row (Softirq row run) = row
record_row (Kthread row device report) = row
record_row (Busy row device report) = row

abbrev pub if_of_row : ℕ → Option PollRecord → Option PollRecord
if_of_row n None = None
if_of_row n (Some line) = if record_row line == n then Some line else None

abbrev pub last_poll_by : ℕ → ReplayState → Option PollRecord
last_poll_by n w = if_of_row n (slice_get w.lines (length w.lines - 1))

-- the lines of device n in the report
abbrev pub lines_of : ℕ → ReplayState → Transmits → ℕ → List ℕ
lines_of version w transmits n = device_lines version n (is_used (at n transmits)) (reported_counts w transmits n)

-- the lines of the devices whose numbers are below n, by increasing number
unfoldable pub lines_below : (ℕ → List ℕ) → ℕ → List ℕ
lines_below device zero = []
lines_below device (suc n) = lines_below device n ++ device n

-- the text: the line of each row that polled, in order; the lines of each device, by increasing number; the poll list; the
-- totals
unfoldable pub text_by : List PollRecord → (ℕ → List ℕ) → List ℕ → ℕ → List ℕ
text_by lines device list devices = flat_map (λ line. with_newline (poll_line line)) lines
    ++ (lines_below device 17
    ++ (with_newline (list_line list)
    ++ with_newline (total_line (run_totals devices lines))))

-- the text of the report for this state of a replay
abbrev pub serial_text : ℕ → ReplayState → Transmits → List ℕ
serial_text version w transmits = text_by w.lines (lines_of version w transmits) w.list (attached w.devices)

-- the report of a trace of this version in serial mode: the text for the state after its rows, or the error of the first enable
-- row that is early
abbrev pub report_of : ℕ → Transmits → Result ReplayState ReplayFault → Result (List ℕ) ReplayFault
report_of version transmits (Ok w) = Ok (serial_text version w transmits)
report_of version transmits (Err fault) = Err fault

abbrev pub serial_report : ReplaySettings → ℕ → List Row → Result (List ℕ) ReplayFault
serial_report s version rows = report_of version (transmits_of rows) (after_all_rows s rows)
