-- The rows of a trace with the runs that the kernel adds: a run that leaves instances on the poll list raises the softirq again
-- (`if (!list_empty(&sd->poll_list)) __raise_softirq_irqoff(NET_RX_SOFTIRQ)` in `net_rx_action`, Linux 6.6, net/core/dev.c).
use Rattle.std.specs.Prelude.{◌≡◌, ◌≤◌, ℕ, zero, suc, ◌+◌, ◌==◌, ◌&&◌, not, nat_lt, Bool, false, if◌then◌else◌, List, [], ◌∷◌, ◌++◌}
use Rattle.std.specs.Prelude.{length, Result, Ok, Err}
use Rattle.device_rows.specs.{Trace.AcceptedAfter, declared.fault.TraceFault.TheVariants.TooManyRows, declared.row.Row.Row}
use Rattle.replay_rows.specs.{Replay.{after_all_rows, after_row, is_early, start}, ReplayState.ReplayState, Softirq.is_softirq}
use Rattle.text_io.specs.{declared.fault.ReplayFault.ReplayFault, declared.fault.ReplayFault.TheVariants.{Pending, Trace}}
use Rattle.text_io.specs.declared.settings.ReplaySettings.{ReplaySettings}

-- the rows so far, with those that were added, and the state after them
pub record Raised : Type 0 where
  pub rows : List Row
  pub state : ReplayState

-- a sequence of steps that ends at the first error
infixl 10 ◌>>=◌
abbrev pub ◌>>=◌ : {A B : Type 0} → Result A ReplayFault → (A → Result B ReplayFault) → Result B ReplayFault
(Ok x) >>= next = next x
(Err fault) >>= next = Err fault

-- one more row: an error if it is row 100001, or enables a device whose disable is pending
unfoldable pub and_row : ReplaySettings → Row → Raised → Result Raised ReplayFault
and_row s row r =
    if nat_lt (length r.rows) 100000
    then (if is_early row.event row.device r.state then Err (Pending (length r.rows + 1))
    else Ok (record { rows = r.rows ++ row ∷ []; state = after_row s (length r.rows + 1) row r.state }))
    else Err (Trace TooManyRows)

-- the row again while the poll list isn't empty, at most this many times
unfoldable pub and_again : ReplaySettings → ℕ → Row → Raised → Result Raised ReplayFault
and_again s zero row r = Ok r
and_again s (suc left) row r = if length r.state.list == 0 then Ok r else and_row s row r >>= and_again s left row

-- the next row is a run at this time
abbrev pub is_run_at : ℕ → List Row → Bool
is_run_at moment [] = false
is_run_at moment (row ∷ rows) = is_softirq row.event && row.moment == moment

-- a run that may be repeated; if the next row is a run at the same time, the trace has the added run already
abbrev pub is_last_run : Row → List Row → Bool
is_last_run row rows = is_softirq row.event && not (is_run_at row.moment rows)

-- a row, and the runs that are added after it
abbrev pub row_and_runs : ReplaySettings → ℕ → Row → List Row → Raised → Result Raised ReplayFault
row_and_runs s restarts row rows r =
    and_row s row r >>= (λ more. if is_last_run row rows then and_again s restarts row more else Ok more)

-- these rows, each run followed by at most this many added ones
unfoldable pub and_rows : ReplaySettings → ℕ → List Row → Raised → Result Raised ReplayFault
and_rows s restarts [] r = Ok r
and_rows s restarts (row ∷ rows) r = row_and_runs s restarts row rows r >>= and_rows s restarts rows

abbrev pub rows_in : Result Raised ReplayFault → Result (List Row) ReplayFault
rows_in (Ok r) = Ok r.rows
rows_in (Err fault) = Err fault

abbrev pub no_rows : Raised
no_rows = record { rows = []; state = start }

-- the rows of a trace with the added runs, or the first error
abbrev pub raised_rows : ReplaySettings → ℕ → List Row → Result (List Row) ReplayFault
raised_rows s restarts rows = rows_in (and_rows s restarts rows no_rows)

-- law: these are the rows of a trace, and all of them can be played
abbrev pub RaisedIsTrace : Type 0
RaisedIsTrace =
    (s : ReplaySettings) (restarts : ℕ) (rows all : List Row) → AcceptedAfter [] rows → raised_rows s restarts rows ≡ Ok all
    → AcceptedAfter [] all × (length all ≤ 100000) × ((w : ReplayState) × (after_all_rows s all ≡ Ok w))
