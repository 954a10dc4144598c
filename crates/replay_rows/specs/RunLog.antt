-- The polls of a run, each with its device after it.
use Rattle.std.specs.Prelude.{ℕ, zero, suc, List, [], ◌∷◌, map, slice_get, take, Option, Some, Result, Ok, if◌then◌else◌}
use Rattle.device_bench.specs.{Bench.{BenchDevices, counts_at, polled_at}, Transmits.{Transmits, tx_counts_of}}
use Rattle.{device_places.specs.Places.at, device_rows.specs.declared.row.Row.Row, poll_runs.specs.Polls.Poll}
use Rattle.replay_rows.specs.{Replay.after_all_rows, ReplayState.ReplayState, Run.replay_run, Softirq.is_softirq, Transmits.transmits_of}
use Rattle.replay_rows.specs.declared.run_log.RunPoll.{RunPoll}
use Rattle.text_io.specs.{declared.fault.ReplayFault.ReplayFault, declared.settings.ReplaySettings.ReplaySettings}

-- the polls of a log
abbrev pub polls_in : List RunPoll → List Poll
polls_in log = map (λ entry. record { id = entry.device; once = entry.once }) log

-- these polls, from these devices on
unfoldable pub logged : ReplaySettings → Transmits → BenchDevices → List Poll → List RunPoll
logged s all devices [] = []
logged s all devices (poll ∷ polls) =
    let after = (polled_at devices poll.id s.weight).1 in
    record { device = poll.id; once = poll.once; counts = counts_at (at poll.id after) (tx_counts_of (at poll.id all)) }
    ∷ logged s all after polls

-- the polls that a row makes in this state, if it is a run
abbrev pub row_polls : ReplaySettings → Transmits → Row → ReplayState → List RunPoll
row_polls s all row w = if is_softirq row.event then logged s all w.devices (replay_run s w.devices w.list).0.polls else []

-- the poll list before that run
abbrev pub row_list : Row → ReplayState → List ℕ
row_list row w = if is_softirq row.event then w.list else []

-- the polls of a row, if those before it were processed
abbrev pub polls_from : ReplaySettings → Transmits → Option Row → Result ReplayState ReplayFault → List RunPoll
polls_from s all (Some row) (Ok w) = row_polls s all row w
polls_from s all row w = []

abbrev pub list_from : Option Row → Result ReplayState ReplayFault → List ℕ
list_from (Some row) (Ok w) = row_list row w
list_from row w = []

-- the polls of row n, if it is a run, and the poll list before it
abbrev pub polls_of_row : ReplaySettings → List Row → ℕ → List RunPoll
polls_of_row s rows zero = []
polls_of_row s rows (suc n) = polls_from s (transmits_of (take n rows)) (slice_get rows n) (after_all_rows s (take n rows))

abbrev pub list_before : ReplaySettings → List Row → ℕ → List ℕ
list_before s rows zero = []
list_before s rows (suc n) = list_from (slice_get rows n) (after_all_rows s (take n rows))
