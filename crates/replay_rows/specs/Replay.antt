-- The effect of the rows of a trace, one by one.
use Rattle.std.specs.Prelude.{ℕ, ◌+◌, ◌==◌, Bool, false, if◌then◌else◌, List, [], ◌∷◌, ◌++◌, length, Result, Ok, Err, sum_by}
use Rattle.device_bench.specs.Bench.{all_settled, after_arrival, busily_polled_at, busy_report_of, handed_by, thread_polls_of}
use Rattle.device_bench.specs.{Device.{after_disable, after_enable, after_threaded, new_device, polled_by_thread}, Kept.is_pending_at}
use Rattle.device_bench.specs.Waiting.{is_left_to_list, is_listed}
use Rattle.{device_places.specs.Places.{added, at, changed, empty}, device_rows.specs.declared.event.RowEvent.RowEvent}
use Rattle.device_rows.specs.declared.event.RowEvent.TheVariants.{Opened, Rx, Tx, Finish, Softirq, Kthread, Disable, Enable, Threaded}
use Rattle.device_rows.specs.{declared.event.RowEvent.TheVariants.Busy, declared.row.Row.Row}
use Rattle.poll_runs.specs.{Function.run_report, Thread.last_next, declared.bench.Once.Once, declared.bench.ThreadReport.ThreadReport}
use Rattle.replay_rows.specs.{Run.replay_run, ReplayState.ReplayState, declared.line.PollRecord.PollRecord}
use Rattle.text_io.specs.{declared.fault.ReplayFault.ReplayFault, declared.fault.ReplayFault.TheVariants.Pending}
use Rattle.text_io.specs.declared.settings.ReplaySettings.{ReplaySettings}
use Rattle.replay_rows.specs.declared.line.PollRecord.TheVariants as line

abbrev pub start : ReplayState
start = record { devices = empty; list = []; lines = [] }

-- ---- how a device gets on the poll list: at its end

abbrev pub entry : Bool → ℕ → List ℕ
entry listed number = if listed then number ∷ [] else []

-- a packet arrives; if its request is granted and queued on the list, the device's number is appended
abbrev pub with_packet : ℕ → ℕ → ReplayState → ReplayState
with_packet number bytes w = record w {
  devices = after_arrival number bytes w.devices;
  list = w.list ++ entry (is_listed (handed_by bytes (at number w.devices))) number;
}

-- ---- a run over the list, a thread's polling and busy polling; each adds a line

abbrev pub with_line : PollRecord → ReplayState → ReplayState
with_line line w = record w { lines = w.lines ++ line ∷ [] }

abbrev pub with_run : ReplaySettings → ℕ → ReplayState → ReplayState
with_run s row w =
    let run = replay_run s w.devices w.list in
    with_line (line.Softirq row (run_report s.budget s.window run.0.polls)) (record w { devices = run.0.bench; list = run.1 })

-- the most polls that a thread makes in one row; the kernel has no such bound, and a trace has too few packets to reach it
abbrev pub most_thread_polls : ℕ
most_thread_polls = 131072

abbrev pub thread_report_of : List Once → ThreadReport
thread_report_of polls = record { polls = length polls; work = sum_by (λ once. once.work) polls; next = last_next polls }

abbrev pub with_thread : ReplaySettings → ℕ → ℕ → ReplayState → ReplayState
with_thread s row number w =
    let polls = thread_polls_of s.weight most_thread_polls (at number w.devices) in
    with_line (line.Kthread row number (thread_report_of polls)) (record w {
      devices = changed (λ d. (polled_by_thread most_thread_polls s.weight d).1) number w.devices;
      list = w.list ++ entry (is_left_to_list (last_next polls)) number;
    })

-- busy polling for this many rounds, and its line
abbrev pub with_busy : ReplaySettings → ℕ → ℕ → ℕ → ReplayState → ReplayState
with_busy s row number rounds w =
    let report = busy_report_of s.weight rounds (at number w.devices) in
    with_line (line.Busy row number report) (record w {
      devices = busily_polled_at w.devices number s.weight rounds;
      list = w.list ++ entry (is_left_to_list report.next) number;
    })

-- ---- rows

-- the effect of row n by its event; tx and done rows affect only the transmit side
abbrev pub after_event : ReplaySettings → ℕ → RowEvent → Row → ReplayState → ReplayState
after_event s n Opened row w = record w { devices = added row.device (new_device row.value) w.devices }
after_event s n Rx row w = with_packet row.device row.value w
after_event s n Tx row w = w
after_event s n Finish row w = w
after_event s n Softirq row w = with_run s n w
after_event s n Kthread row w = with_thread s n row.device w
after_event s n Disable row w = record w { devices = changed after_disable row.device w.devices }
after_event s n Enable row w = record w { devices = changed after_enable row.device w.devices }
after_event s n Busy row w = with_busy s n row.device row.value w
after_event s n Threaded row w = record w { devices = changed (after_threaded (row.value == 1)) row.device w.devices }

-- after each row every pending disable is tried once
abbrev pub all_tried : ReplayState → ReplayState
all_tried w = record w { devices = all_settled w.devices }

abbrev pub after_row : ReplaySettings → ℕ → Row → ReplayState → ReplayState
after_row s n row w = all_tried (after_event s n row.event row w)

-- an enable row that meets a disable that is still pending
abbrev pub is_early : RowEvent → ℕ → ReplayState → Bool
is_early Enable number w = is_pending_at (at number w.devices)
is_early _ number w = false

-- the state after the rows from row n on, in order, or the first enable row that is early
abbrev pub after_rows : ReplaySettings → ℕ → List Row → ReplayState → Result ReplayState ReplayFault
after_rows s n [] w = Ok w
after_rows s n (row ∷ rows) w = if is_early row.event row.device w then Err (Pending n) else after_rows s (n + 1) rows (after_row s n row w)

-- the state after all rows of a trace
abbrev pub after_all_rows : ReplaySettings → List Row → Result ReplayState ReplayFault
after_all_rows s rows = after_rows s 1 rows start
