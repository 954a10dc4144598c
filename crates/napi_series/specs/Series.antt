-- The series of a trace: CSV with a line after each row, or after each Nth row. A line has the values that the report of the
-- rows so far would show. A run can also have a line for each of its polls.
use Rattle.std.specs.Prelude.{ℕ, zero, suc, ◌+◌, ◌%◌, ◌==◌, ◌&&◌, not, Bool, true, false, List, [], ◌∷◌, ◌++◌, Option, Some, None}
use Rattle.std.specs.{Prelude.{Result, Ok, Err, codes, decimal, drop, if◌then◌else◌, length, sum_by, take, unwrap_or}, Fmt.signed_decimal}
use Rattle.std.specs.List.{slice_get}
use Rattle.device_rows.specs.{Trace.{records_of, trace_of, version_in}, declared.fault.TraceFault.TraceFault, declared.row.Row.Row}
use Rattle.{device_bench.specs.declared.counts.DeviceCounts.DeviceCounts, dql_core.specs.Counter.distance_of}
use Rattle.napi_series.specs.declared.settings.SeriesSettings.{SeriesSettings}
use Rattle.poll_runs.specs.{Polls.{queued_by, repolled}, declared.bench.Next.Next}
use Rattle.poll_runs.specs.declared.bench.Next.TheVariants.{Absent, Gone, Again, Repoll}
use Rattle.text_io.specs.{declared.settings.ReplaySettings.ReplaySettings, Lines.flag, declared.fault.ReplayFault.ReplayFault}
use Rattle.text_io.specs.declared.fault.ReplayFault.TheVariants.{Trace}
use Rattle.replay_raised.specs.{RaisedTrace.{raised_trace, with_added_runs}, TraceText.fields}
use Rattle.replay_rows.specs.After.{counts_after, is_used_after, list_after, polled_after}
use Rattle.replay_rows.specs.{Replay.after_all_rows, Report.{lines_below, spaced, state_word}, ReplayState.ReplayState}
use Rattle.replay_rows.specs.{RunLog.{list_before, polls_in, polls_of_row}, declared.line.PollRecord.PollRecord}
use Rattle.replay_rows.specs.{declared.line.PollRecord.TheVariants.{Softirq, Kthread, Busy}, declared.run_log.RunPoll.RunPoll}

abbrev pub names : List ℕ
names = codes "row,moment,device,state,waiting,arrived,dropped,polled,in_flight,limit,avail,stopped,polls,work,squeezed,word,list,gave"

-- the end of the first line, and of a row's line: with polls there is one more column, which rows leave empty
abbrev pub names_end : Bool → List ℕ
names_end true = codes ",ended\n"
names_end false = codes "\n"

abbrev pub row_end : Bool → List ℕ
row_end true = codes ",\n"
row_end false = codes "\n"

-- the fields of a row: its number, its moment and its device
abbrev pub row_fields : ℕ → Row → List ℕ
row_fields n row = decimal n ++ fields (decimal row.moment ∷ decimal row.device ∷ [])

-- the fields of its device: its state, the packets in its ring, and how many arrived, were dropped and were polled
abbrev pub device_fields : Option DeviceCounts → List ℕ
device_fields None = codes ",,,,,"
device_fields (Some counts) =
    fields (state_word counts.state ∷ decimal counts.left ∷ decimal counts.arrived ∷ decimal counts.dropped ∷ decimal counts.polled ∷ [])

-- the fields of its transmit side, if it had a tx or done row: the bytes in flight (sent and not complete), the limit, the
-- bytes that may still be queued, and whether the queue is stopped
abbrev pub queue_fields : Bool → Option DeviceCounts → List ℕ
queue_fields true (Some counts) =
    let queue = counts.tx.state in
    fields (decimal (distance_of queue.queued queue.completed) ∷ decimal queue.limit ∷ signed_decimal queue.avail
    ∷ decimal (flag queue.stopped) ∷ [])
queue_fields _ counts = codes ",,,,"

-- what the row did, if it polled; only a softirq run can be squeezed
abbrev pub run_fields : Option PollRecord → List ℕ
run_fields None = codes ",,,"
run_fields (Some (Softirq row run)) = fields (decimal run.polls ∷ decimal run.work ∷ decimal (flag run.squeezed) ∷ [])
run_fields (Some (Kthread row device report)) = fields (decimal report.polls ∷ decimal report.work ∷ [] ∷ [])
run_fields (Some (Busy row device report)) = fields (decimal report.polls ∷ decimal report.work ∷ [] ∷ [])

-- the field of the device's state word
abbrev pub word_field : Option DeviceCounts → List ℕ
word_field None = codes ","
word_field (Some counts) = codes "," ++ decimal counts.word

-- the fields after the row's own: the effect of the row on its device, and what it polled
abbrev pub poll_fields : ℕ → Row → Bool → Option DeviceCounts → Option PollRecord → List ℕ
poll_fields n row used counts polled =
    row_fields n row ++ (device_fields counts ++ (queue_fields used counts ++ (run_fields polled ++ word_field counts)))

-- ---- the packets that a row took

-- how many packets a device processed by this many polls, if there was one
abbrev pub gave : ℕ → ℕ → ℕ → List ℕ
gave device polls work = if polls == 0 then [] else codes " " ++ (decimal device ++ (codes ":" ++ decimal work))

abbrev pub is_absent : Next → Bool
is_absent Absent = true
is_absent Gone = false
is_absent (Again k) = false
is_absent Repoll = false

-- a poll that found this device on the list
abbrev pub is_poll_of : ℕ → RunPoll → Bool
is_poll_of device poll = poll.device == device && not (is_absent poll.once.next)

-- a poll of this device counts once, with its packets
abbrev pub polls_by : ℕ → RunPoll → ℕ
polls_by device poll = if is_poll_of device poll then 1 else 0

abbrev pub work_by : ℕ → RunPoll → ℕ
work_by device poll = if is_poll_of device poll then poll.once.work else 0

-- how many packets a device processed in a run
abbrev pub run_gave : List RunPoll → ℕ → List ℕ
run_gave polls device = gave device (sum_by (polls_by device) polls) (sum_by (work_by device) polls)

-- how many packets each device processed that the row polled
abbrev pub row_gave : Option PollRecord → List RunPoll → List ℕ
row_gave None polls = []
row_gave (Some (Softirq row run)) polls = lines_below (run_gave polls) 17
row_gave (Some (Kthread row device report)) polls = gave device report.polls report.work
row_gave (Some (Busy row device report)) polls = gave device report.polls report.work

-- the poll list after row n, and how many packets each device processed that the row polled
abbrev pub list_fields : ReplaySettings → List Row → ℕ → List ℕ
list_fields s rows n =
    codes "," ++ (spaced (list_after s rows n) ++ (codes "," ++ row_gave (polled_after s rows n) (polls_of_row s rows n)))

-- ---- the polls of a run

-- the poll list if the run ends after these polls: what wasn't polled yet, what they queued, and the repolls
abbrev pub list_left : List ℕ → List RunPoll → List ℕ
list_left list polls = drop (length polls) (list ++ queued_by (polls_in polls)) ++ repolled (polls_in polls)

abbrev pub ending : Next → List ℕ
ending Absent = codes "absent"
ending Gone = codes "complete"
ending (Again k) = codes "again"
ending Repoll = codes "repoll"

-- poll k of row n: the fields of its device after it, and those of the poll
abbrev pub once_fields : ℕ → ℕ → Row → Bool → RunPoll → List ℕ
once_fields n k row used poll =
    (decimal n ++ (codes "." ++ (decimal k ++ fields (decimal row.moment ∷ decimal poll.device ∷ []))))
    ++ (device_fields poll.counts ++ (queue_fields used poll.counts
    ++ (fields (codes "1" ∷ decimal poll.once.work ∷ [] ∷ []) ++ word_field poll.counts)))

-- the packets of the poll, and how it ended
abbrev pub once_end : RunPoll → List ℕ
once_end poll =
    codes ", " ++ (decimal poll.device ++ (codes ":" ++ (decimal poll.once.work
    ++ (codes "," ++ (ending poll.once.next ++ codes "\n")))))

abbrev pub run_poll_line : ℕ → ℕ → Row → (ℕ → Bool) → List ℕ → RunPoll → List ℕ
run_poll_line n k row used list poll =
    once_fields n k row (used poll.device) poll ++ (codes "," ++ (spaced list ++ once_end poll))

-- the line of the poll after k others
abbrev pub poll_line_at : ℕ → Row → (ℕ → Bool) → List ℕ → List RunPoll → ℕ → Option RunPoll → List ℕ
poll_line_at n row used list polls k None = []
poll_line_at n row used list polls k (Some poll) = run_poll_line n (k + 1) row used (list_left list (take (k + 1) polls)) poll

-- the lines of the first k polls of row n
unfoldable pub poll_lines : ℕ → Row → (ℕ → Bool) → List ℕ → List RunPoll → ℕ → List ℕ
poll_lines n row used list polls zero = []
poll_lines n row used list polls (suc k) =
    poll_lines n row used list polls k ++ poll_line_at n row used list polls k (slice_get polls k)

-- the lines of the polls of row n
abbrev pub polls_part : ReplaySettings → List Row → ℕ → Row → List ℕ
polls_part s rows n row =
    poll_lines n row (is_used_after rows n) (list_before s rows n) (polls_of_row s rows n) (length (polls_of_row s rows n))

-- ---- lines

-- the line of the row after n others
abbrev pub row_part : SeriesSettings → List Row → ℕ → Row → List ℕ
row_part s rows n row =
    poll_fields n row (is_used_after rows n row.device) (counts_after s.replay rows n row.device) (polled_after s.replay rows n)
    ++ (list_fields s.replay rows n ++ row_end s.options.polls)

abbrev pub lines_after : SeriesSettings → List Row → ℕ → Option Row → List ℕ
lines_after s rows n None = []
lines_after s rows n (Some row) =
    (if s.options.polls then polls_part s.replay rows n row else []) ++ row_part s rows n row

-- how many rows make one line
abbrev pub every_of : SeriesSettings → ℕ
every_of s = unwrap_or s.options.every 1

-- the lines of this row, if it has any
abbrev pub part_after : SeriesSettings → List Row → ℕ → Option Row → List ℕ
part_after s rows n row = if (n + 1) % every_of s == 0 then lines_after s rows (n + 1) row else []

-- the lines after the first n rows
unfoldable pub lines_to : SeriesSettings → List Row → ℕ → List ℕ
lines_to s rows zero = []
lines_to s rows (suc n) = lines_to s rows n ++ part_after s rows n (slice_get rows n)

abbrev pub series_text : SeriesSettings → List Row → List ℕ
series_text s rows = (names ++ names_end s.options.polls) ++ lines_to s rows (length rows)

-- the series of a trace's rows; or their error, as for a report
abbrev pub series_in : Result ReplayState ReplayFault → List ℕ → Result (List ℕ) ReplayFault
series_in (Ok w) text = Ok text
series_in (Err fault) text = Err fault

abbrev pub series_of : SeriesSettings → List Row → Result (List ℕ) ReplayFault
series_of s rows = series_in (after_all_rows s.replay rows) (series_text s rows)

-- the same for the rows with the added runs, if these have no error
abbrev pub series_of_raised : SeriesSettings → Result (List Row) ReplayFault → Result (List ℕ) ReplayFault
series_of_raised s (Ok rows) = series_of s rows
series_of_raised s (Err fault) = Err fault

-- the series of a text: that of its rows, or the first error of the trace
abbrev pub series_result : SeriesSettings → Result (List Row) TraceFault → Result (List ℕ) ReplayFault
series_result s (Ok rows) = series_of_raised s (with_added_runs s.replay s.options.restarts rows)
series_result s (Err fault) = Err (Trace fault)

-- the rows with the added runs are printed, or their series
abbrev pub series_by : SeriesSettings → List ℕ → Result (List ℕ) ReplayFault
series_by s bytes =
    if s.options.rows then raised_trace s.replay s.options.restarts bytes else series_result s (trace_of (records_of bytes))
