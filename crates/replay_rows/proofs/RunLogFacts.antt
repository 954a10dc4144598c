-- How one more poll and one more row advance a log.
use Rattle.std.proofs.Common.{◌≡◌, ◌∙◌, ◌+◌, ◌<◌, ℕ, suc, List, [], ◌∷◌, ◌++◌, Ok, append_assoc, length, take, get_or, ap, arith, refl}
use Rattle.std.proofs.{Common.sym, lemmas.List.map-append}
use Rattle.device_bench.specs.{Bench.{BenchDevices, counts_at, polled_at}, Transmits.{Transmits, tx_counts_of}}
use Rattle.{device_places.specs.Places.at, device_rows.{specs.declared.row.Row.Row, proofs.Accepted.get-at}, poll_runs.specs.Polls.Poll}
use Rattle.replay_rows.specs.{RunLog.{list_before, logged, polls_in, polls_of_row, row_list, row_polls}, Replay.after_all_rows}
use Rattle.replay_rows.specs.{ReplayState.ReplayState, Transmits.transmits_of, declared.run_log.RunPoll.RunPoll}
use Rattle.text_io.specs.declared.settings.ReplaySettings.{ReplaySettings}

polls-push : (log : List RunPoll) (entry : RunPoll) (more : List Poll)
    → polls_in (log ++ entry ∷ []) ++ more ≡ polls_in log ++ (record { id = entry.device; once = entry.once } ∷ more)
polls-push log entry more =
    ap (λ (l : List Poll). l ++ more) (map-append (λ (e : RunPoll). record { id = e.device; once = e.once }) log (entry ∷ []))
    ∙ append_assoc (polls_in log) (record { id = entry.device; once = entry.once } ∷ []) more

-- one more poll, of a device whose counts are logged
pub logged-push : (s : ReplaySettings) (all : Transmits) (start before after : BenchDevices) (log : List RunPoll) (entry : RunPoll)
    → ((more : List Poll) → logged s all start (polls_in log ++ more) ≡ log ++ logged s all before more)
    → after ≡ (polled_at before entry.device s.weight).1
    → entry.counts ≡ counts_at (at entry.device after) (tx_counts_of (at entry.device all))
    → (more : List Poll) → logged s all start (polls_in (log ++ entry ∷ []) ++ more) ≡ (log ++ entry ∷ []) ++ logged s all after more
unfolding logged
logged-push s all start before after log entry so_far is counts more =
    rw (polls-push log entry more)
    (so_far (record { id = entry.device; once = entry.once } ∷ more)
    ∙ rw (sym is, sym counts) (sym (append_assoc log (entry ∷ []) (logged s all after more))))

-- the polls and the list of one more row
pub list-next : (s : ReplaySettings) (rows : List Row) (n : ℕ) (d : Row) (w : ReplayState) → n < length rows
    → after_all_rows s (take n rows) ≡ Ok w → list_before s rows (n + 1) ≡ row_list (get_or rows n d) w
list-next s rows n d w below state =
    let next : n + 1 ≡ suc n = omega arith in
    rw (next, get-at rows n d below, state) refl

pub polls-next : (s : ReplaySettings) (rows : List Row) (n : ℕ) (d : Row) (w : ReplayState) → n < length rows
    → after_all_rows s (take n rows) ≡ Ok w → polls_of_row s rows (n + 1) ≡ row_polls s (transmits_of (take n rows)) (get_or rows n d) w
polls-next s rows n d w below state =
    let next : n + 1 ≡ suc n = omega arith in
    rw (next, get-at rows n d below, state) refl
