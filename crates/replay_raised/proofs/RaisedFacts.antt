-- The rows with the added runs are rows of a trace that can be played.
use Rattle.std.proofs.Common.{◌≡◌, ◌∙◌, ℕ, zero, suc, ◌+◌, ◌-◌, ◌<◌, ◌≤◌, Bool, true, false, Ok, Err, List, [], ◌∷◌, ◌++◌, length, drop}
use Rattle.std.proofs.{Common.{get_or, ap, arith, length-append, refl, subst, sym, take}, lemmas.{Bool.ltb-true, Grind.common_steps}}
use Rattle.std.proofs.{lemmas.List.take_rest, Math.ListN.drop_of_length-le, Math.Seq.drop-cons}
use Rattle.std.specs.Prelude.{Result, None, if◌then◌else◌, nat_lt, not, ◌&&◌, ◌==◌}
use Rattle.device_rows.specs.{Row.{device_fits, value_fits}, Switch.{refusal, switch_of}, Trace.{AcceptedAfter, IsAccepted}}
use Rattle.device_rows.specs.{declared.event.RowEvent.RowEvent, declared.fault.TraceFault.TheVariants.TooManyRows, declared.row.Row.Row}
use Rattle.device_rows.specs.declared.{event.RowEvent.TheVariants.Softirq, switch.Switch.{Switch}}
use Rattle.device_rows.proofs.{Accepted.accepted-push, SwitchFacts.{switch_of-append, switch_of-other, switch_of-same}}
use Rattle.replay_raised.specs.Raised.{Raised, RaisedIsTrace, ◌>>=◌, and_again, and_row, and_rows, is_last_run, is_run_at, no_rows}
use Rattle.{replay_raised.specs.Raised.{raised_rows, rows_in, row_and_runs}, replay_rows.specs.ReplayState.ReplayState}
use Rattle.replay_rows.specs.{Replay.{after_all_rows, after_row, is_early}, Softirq.is_softirq}
use Rattle.replay_rows.proofs.PlayFacts.{played-push}
use Rattle.text_io.specs.{declared.fault.ReplayFault.ReplayFault, declared.fault.ReplayFault.TheVariants.{Pending, Trace}}
use Rattle.text_io.specs.declared.settings.ReplaySettings.{ReplaySettings}

pub softirq-is : (e : RowEvent) → is_softirq e ≡ true → e ≡ Softirq
softirq-is e h = grind (arith, common_steps)

last-run : (row : Row) (rows : List Row) → is_last_run row rows ≡ true → row.event ≡ Softirq
last-run row rows h = by (is_softirq row.event) refl h
  where
    by : (b : Bool) → is_softirq row.event ≡ b → (b && not (is_run_at row.moment rows)) ≡ true → row.event ≡ Softirq
    by true is h = softirq-is row.event is
    by false is h = cc h

-- whether a row is rejected doesn't depend on its number
refused-alike : (n m : ℕ) (e : RowEvent) (s : Switch) → refusal n e s ≡ None → refusal m e s ≡ None
refused-alike n m e s h = grind (arith, common_steps)

-- a run changes no switch
run-sets-none : (d : ℕ) (rows : List Row) (row : Row) → row.event ≡ Softirq → switch_of d (rows ++ row ∷ []) ≡ switch_of d rows
run-sets-none d rows row run = by (row.device == d) refl
  where
    by : (b : Bool) → (row.device == d) ≡ b → switch_of d (rows ++ row ∷ []) ≡ switch_of d rows
    by true h = rw (switch_of-same d rows row h, run) refl
    by false h = switch_of-other d rows row h

-- ---- one row

record AddsRow (s : ReplaySettings) (row : Row) (r more : Raised) : Type 0 where
  pub room : length r.rows < 100000
  pub on_time : is_early row.event row.device r.state ≡ false
  pub is : more ≡ record { rows = r.rows ++ row ∷ []; state = after_row s (length r.rows + 1) row r.state }

adds-row : (s : ReplaySettings) (row : Row) (r more : Raised) → and_row s row r ≡ Ok more → AddsRow s row r more
unfolding and_row
adds-row s row r more e = by (nat_lt (length r.rows) 100000) (is_early row.event row.device r.state) refl refl e
  where
    by : (room early : Bool) → nat_lt (length r.rows) 100000 ≡ room → is_early row.event row.device r.state ≡ early
        → (if room then (if early then Err (Pending (length r.rows + 1))
        else Ok (record { rows = r.rows ++ row ∷ []; state = after_row s (length r.rows + 1) row r.state }))
        else Err (Trace TooManyRows)) ≡ Ok more
        → AddsRow s row r more
    by true false room on_time e = record { room = ltb-true _ _ room; on_time = on_time; is = cc e }
    by true true room on_time e = cc e
    by false early room on_time e = cc e

-- what holds after these rows of the trace
record IsRaising (s : ReplaySettings) (earlier : List Row) (r : Raised) : Type 0 where
  pub few : length r.rows ≤ 100000
  pub played : after_all_rows s r.rows ≡ Ok r.state
  pub accepted : AcceptedAfter [] r.rows
  pub same : (d : ℕ) → switch_of d r.rows ≡ switch_of d earlier

one-more : (s : ReplaySettings) (earlier later : List Row) (row : Row) (r more : Raised) → IsRaising s earlier r → IsAccepted r.rows row
    → ((d : ℕ) → switch_of d (r.rows ++ row ∷ []) ≡ switch_of d later) → and_row s row r ≡ Ok more → IsRaising s later more
one-more s earlier later row r more is ok same e =
    let adds = adds-row s row r more e in
    subst (IsRaising s later) (sym adds.is) (record {
      few = omega (arith, length-append r.rows (row ∷ []), adds.room);
      played = played-push s r.rows row r.state is.played adds.on_time;
      accepted = accepted-push [] r.rows row is.accepted ok;
      same = same;
    })

-- a row of the trace
own-row : (s : ReplaySettings) (earlier : List Row) (row : Row) (r more : Raised) → IsRaising s earlier r → IsAccepted earlier row
    → and_row s row r ≡ Ok more → IsRaising s (earlier ++ row ∷ []) more
own-row s earlier row r more is ok e = one-more s earlier (earlier ++ row ∷ []) row r more is taken same e
  where
    taken : IsAccepted r.rows row
    taken = record {
      device = ok.device;
      value = ok.value;
      in_turn = refused-alike (length earlier + 1) (length r.rows + 1) row.event (switch_of row.device r.rows)
          (rw (is.same row.device) ok.in_turn);
    }

    same : (d : ℕ) → switch_of d (r.rows ++ row ∷ []) ≡ switch_of d (earlier ++ row ∷ [])
    same d = rw (switch_of-append d r.rows (row ∷ []), switch_of-append d earlier (row ∷ []), is.same d) refl

-- ---- the added runs

added : (s : ReplaySettings) (earlier : List Row) (left : ℕ) (row : Row) (r more : Raised) → IsRaising s earlier r
    → device_fits row.event row.device ≡ true → value_fits row.event row.value ≡ true → row.event ≡ Softirq
    → and_again s left row r ≡ Ok more → IsRaising s earlier more
unfolding and_again
added s earlier zero row r more is device value run e = let same : r ≡ more = cc e in subst (IsRaising s earlier) same is
added s earlier (suc left) row r more is device value run e =
    by (λ next so_far e'. added s earlier left row next more so_far device value run e') (length r.state.list == 0) e
  where
    then_on : ((next : Raised) → IsRaising s earlier next → and_again s left row next ≡ Ok more → IsRaising s earlier more)
        → (x : Result Raised ReplayFault) → and_row s row r ≡ x → (x >>= and_again s left row) ≡ Ok more → IsRaising s earlier more
    then_on rest (Err fault) one e = cc e
    then_on rest (Ok next) one e =
        let taken : IsAccepted r.rows row = record { device = device; value = value; in_turn = rw run refl } in
        rest next (one-more s earlier earlier row r next is taken (λ d. run-sets-none d r.rows row run ∙ is.same d) one) e

    by : ((next : Raised) → IsRaising s earlier next → and_again s left row next ≡ Ok more → IsRaising s earlier more)
        → (b : Bool) → (if b then Ok r else and_row s row r >>= and_again s left row) ≡ Ok more → IsRaising s earlier more
    by rest true e = let same : r ≡ more = cc e in subst (IsRaising s earlier) same is
    by rest false e = then_on rest (and_row s row r) refl e

row-with-added : (s : ReplaySettings) (restarts : ℕ) (earlier : List Row) (row : Row) (rows : List Row) (r more : Raised)
    → IsRaising s earlier r → IsAccepted earlier row → row_and_runs s restarts row rows r ≡ Ok more → IsRaising s (earlier ++ row ∷ []) more
row-with-added s restarts earlier row rows r more is ok e = then_on (and_row s row r) refl e
  where
    then_on : (x : Result Raised ReplayFault) → and_row s row r ≡ x
        → (x >>= (λ one. if is_last_run row rows then and_again s restarts row one else Ok one)) ≡ Ok more
        → IsRaising s (earlier ++ row ∷ []) more
    then_on (Err fault) one e = cc e
    then_on (Ok next) one e = by (is_last_run row rows) refl e
      where
        by : (b : Bool) → is_last_run row rows ≡ b → (if b then and_again s restarts row next else Ok next) ≡ Ok more
            → IsRaising s (earlier ++ row ∷ []) more
        by true run e =
            added s (earlier ++ row ∷ []) restarts row next more (own-row s earlier row r next is ok one) ok.device ok.value
            (last-run row rows run) e
        by false run e =
            let same : next ≡ more = cc e in
            subst (IsRaising s (earlier ++ row ∷ [])) same (own-row s earlier row r next is ok one)

-- ---- all rows

all-rows : (s : ReplaySettings) (restarts : ℕ) (earlier rows : List Row) (r more : Raised) → IsRaising s earlier r
    → AcceptedAfter earlier rows → and_rows s restarts rows r ≡ Ok more → (all : List Row) × IsRaising s all more
unfolding and_rows
all-rows s restarts earlier [] r more is ok e = let same : r ≡ more = cc e in (earlier, subst (IsRaising s earlier) same is)
all-rows s restarts earlier (row ∷ rows) r more is ok e =
    then_on (λ next so_far e'. all-rows s restarts (earlier ++ row ∷ []) rows next more so_far ok.1 e')
    (row_and_runs s restarts row rows r) refl e
  where
    then_on : ((next : Raised) → IsRaising s (earlier ++ row ∷ []) next → and_rows s restarts rows next ≡ Ok more
        → (all : List Row) × IsRaising s all more)
        → (x : Result Raised ReplayFault) → row_and_runs s restarts row rows r ≡ x → (x >>= and_rows s restarts rows) ≡ Ok more
        → (all : List Row) × IsRaising s all more
    then_on rest (Err fault) one e = cc e
    then_on rest (Ok next) one e = rest next (row-with-added s restarts earlier row rows r next is ok.0 one) e

start-is : (s : ReplaySettings) → IsRaising s [] no_rows
start-is s = record { few = omega arith; played = refl; accepted = tt; same = λ d. refl }

pub raised-is-trace : RaisedIsTrace
raised-is-trace s restarts rows all ok e = by (and_rows s restarts rows no_rows) refl e
  where
    by : (x : Result Raised ReplayFault) → and_rows s restarts rows no_rows ≡ x → rows_in x ≡ Ok all
        → AcceptedAfter [] all × (length all ≤ 100000) × ((w : ReplayState) × (after_all_rows s all ≡ Ok w))
    by (Err fault) is e = cc e
    by (Ok r) is e =
        let raising = all-rows s restarts [] rows no_rows r (start-is s) ok is in
        let same : r.rows ≡ all = cc e in (
          subst (AcceptedAfter []) same raising.1.accepted,
          subst (λ (l : List Row). length l ≤ 100000) same raising.1.few,
          (r.state, subst (λ (l : List Row). after_all_rows s l ≡ Ok r.state) same raising.1.played),
        )

-- ---- one turn of a loop that plays a row again

pub again-none : (s : ReplaySettings) (left : ℕ) (row : Row) (r : Raised) → left ≡ 0 → and_again s left row r ≡ Ok r
unfolding and_again
again-none s left row r none = rw none refl

pub again-empty : (s : ReplaySettings) (left : ℕ) (row : Row) (r : Raised) → (length r.state.list == 0) ≡ true
    → and_again s left row r ≡ Ok r
unfolding and_again
again-empty s zero row r empty = refl
again-empty s (suc left) row r empty = rw empty refl

again-full : (s : ReplaySettings) (left : ℕ) (row : Row) (r : Raised) → 0 < left → (length r.state.list == 0) ≡ false
    → and_again s left row r ≡ (and_row s row r >>= and_again s (left - 1) row)
unfolding and_again
again-full s zero row r some full = absurd (omega (arith, some))
again-full s (suc left) row r some full =
    let next : suc left - 1 ≡ left = omega arith in
    rw (full, next) refl

pub again-next : (s : ReplaySettings) (left : ℕ) (row : Row) (r more : Raised) → 0 < left → (length r.state.list == 0) ≡ false
    → and_row s row r ≡ Ok more → and_again s left row r ≡ and_again s (left - 1) row more
again-next s left row r more some full one = again-full s left row r some full ∙ rw one refl

pub again-fault : (s : ReplaySettings) (left : ℕ) (row : Row) (r : Raised) (fault : ReplayFault) → 0 < left
    → (length r.state.list == 0) ≡ false → and_row s row r ≡ Err fault → and_again s left row r ≡ Err fault
again-fault s left row r fault some full one = again-full s left row r some full ∙ rw one refl

-- ---- one row of a loop over a trace

pub loop-row : (s : ReplaySettings) (restarts : ℕ) (rows : List Row) (i : ℕ) (d : Row) (r : Raised) → i < length rows
    → and_rows s restarts (drop i rows) r
    ≡ (row_and_runs s restarts (get_or rows i d) (drop (i + 1) rows) r >>= and_rows s restarts (drop (i + 1) rows))
unfolding and_rows
loop-row s restarts rows i d r below =
    let next : suc i ≡ i + 1 = omega arith in
    let split : drop i rows ≡ get_or rows i d ∷ drop (i + 1) rows =
    subst (λ (n : ℕ). drop i rows ≡ get_or rows i d ∷ drop n rows) next (drop-cons rows i d below) in
    rw split refl

-- the rows after a row, as a slice
pub last-is : (row : Row) (rows : List Row) (n : ℕ) (b : Bool) → is_last_run row (take (length rows - n) (drop n rows)) ≡ b
    → is_last_run row (drop n rows) ≡ b
last-is row rows n b h = subst (λ (l : List Row). is_last_run row l ≡ b) (take_rest rows n) h

-- a row of the trace alone, and with added runs
pub with-none : (s : ReplaySettings) (restarts : ℕ) (row : Row) (rows : List Row) (r next : Raised) → and_row s row r ≡ Ok next
    → is_last_run row rows ≡ false → row_and_runs s restarts row rows r ≡ Ok next
with-none s restarts row rows r next one last = rw (one, last) refl

pub with-again : (s : ReplaySettings) (restarts : ℕ) (row : Row) (rows : List Row) (r next : Raised) (x : Result Raised ReplayFault)
    → and_row s row r ≡ Ok next → is_last_run row rows ≡ true → and_again s restarts row next ≡ x → row_and_runs s restarts row rows r ≡ x
with-again s restarts row rows r next x one last again = rw (one, last, again) refl

pub with-fault : (s : ReplaySettings) (restarts : ℕ) (row : Row) (rows : List Row) (r : Raised) (fault : ReplayFault)
    → and_row s row r ≡ Err fault → row_and_runs s restarts row rows r ≡ Err fault
with-fault s restarts row rows r fault one = rw one refl

pub loop-next : (s : ReplaySettings) (restarts : ℕ) (rows : List Row) (i : ℕ) (d : Row) (r more : Raised) → i < length rows
    → row_and_runs s restarts (get_or rows i d) (drop (i + 1) rows) r ≡ Ok more
    → and_rows s restarts (drop i rows) r ≡ and_rows s restarts (drop (i + 1) rows) more
loop-next s restarts rows i d r more below e = loop-row s restarts rows i d r below ∙ rw e refl

pub loop-end : (s : ReplaySettings) (restarts : ℕ) (rows : List Row) (i : ℕ) (r : Raised) → length rows ≤ i
    → and_rows s restarts (drop i rows) r ≡ and_rows s restarts rows no_rows → raised_rows s restarts rows ≡ Ok r.rows
unfolding and_rows
loop-end s restarts rows i r past same =
    let whole : and_rows s restarts rows no_rows ≡ Ok r = sym same ∙ rw (drop_of_length-le rows past) refl in
    ap rows_in whole

-- an error of a row is that of all rows
pub loop-fault : (s : ReplaySettings) (restarts : ℕ) (rows : List Row) (i : ℕ) (d : Row) (r : Raised) (fault : ReplayFault)
    → i < length rows → and_rows s restarts (drop i rows) r ≡ and_rows s restarts rows no_rows
    → row_and_runs s restarts (get_or rows i d) (drop (i + 1) rows) r ≡ Err fault → raised_rows s restarts rows ≡ Err fault
loop-fault s restarts rows i d r fault below before e =
    let whole : and_rows s restarts rows no_rows ≡ Err fault = sym before ∙ loop-row s restarts rows i d r below ∙ rw e refl in
    ap rows_in whole
