-- How one more row advances a replay.
use Rattle.std.proofs.Common.{◌≡◌, ◌∙◌, ℕ, zero, suc, ◌+◌, ◌<◌, Bool, true, false, Ok, Err, inl, inr, List, [], ◌∷◌, ◌++◌, length}
use Rattle.std.proofs.{Common.{append_assoc, take, drop, get_or, ap, refl, sym, arith}, lemmas.List.{length-take, take_more}}
use Rattle.std.specs.Prelude.{Result, if◌then◌else◌}
use Rattle.{device_bench.specs.Transmits.Transmits, device_rows.specs.declared.row.Row.Row}
use Rattle.replay_rows.specs.{Replay.{after_row, after_rows, is_early, start, after_all_rows}, Report.{report_of, serial_report}}
use Rattle.replay_rows.specs.{Refused.{IsRowFault, IsSerialFault}, Transmits.{after_transmit, after_transmits, transmits_of}}
use Rattle.replay_rows.specs.{ReplayState.ReplayState}
use Rattle.text_io.specs.{declared.fault.ReplayFault.ReplayFault, declared.fault.ReplayFault.TheVariants.{OutputFailed, Pending}}
use Rattle.text_io.specs.declared.settings.ReplaySettings.{ReplaySettings}

-- the state after the remaining rows, if those before them were processed
then_rows : ReplaySettings → ℕ → List Row → Result ReplayState ReplayFault → Result ReplayState ReplayFault
then_rows s n rows (Ok w) = after_rows s n rows w
then_rows s n rows (Err fault) = Err fault

after_rows-append : (s : ReplaySettings) (n m : ℕ) (xs ys : List Row) (w : ReplayState) → m ≡ n + length xs
    → after_rows s n (xs ++ ys) w ≡ then_rows s m ys (after_rows s n xs w)
unfolding then_rows
after_rows-append s n m [] ys w e = let at : m ≡ n = omega arith in rw at refl
after_rows-append s n m (x ∷ xs) ys w e =
    by (is_early x.event x.device w) (after_rows-append s (n + 1) m xs ys (after_row s n x w) (omega arith))
  where
    by : (b : Bool) → after_rows s (n + 1) (xs ++ ys) (after_row s n x w) ≡ then_rows s m ys (after_rows s (n + 1) xs (after_row s n x w))
        → (if b then Err (Pending n) else after_rows s (n + 1) (xs ++ ys) (after_row s n x w))
        ≡ then_rows s m ys (if b then Err (Pending n) else after_rows s (n + 1) xs (after_row s n x w))
    by true h = refl
    by false h = h

-- these rows and one more that isn't an early enable
pub played-push : (s : ReplaySettings) (rows : List Row) (row : Row) (w : ReplayState) → after_all_rows s rows ≡ Ok w
    → is_early row.event row.device w ≡ false → after_all_rows s (rows ++ row ∷ []) ≡ Ok (after_row s (length rows + 1) row w)
unfolding then_rows
played-push s rows row w before on_time =
    after_rows-append s 1 (length rows + 1) rows (row ∷ []) start (omega arith) ∙ rw (before, on_time) refl

split-at : (rows : List Row) (i : ℕ) (d : Row) → i < length rows → rows ≡ take i rows ++ get_or rows i d ∷ drop (i + 1) rows
split-at [] i d below = absurd (omega (arith, below))
split-at (row ∷ rows) zero d below = refl
split-at (row ∷ rows) (suc i) d below =
    let next : suc i + 1 ≡ suc (i + 1) = omega arith in
    rw next (ap (λ (l : List Row). row ∷ l) (split-at rows i d (omega (arith, below))))

-- one more row, which isn't an early enable (one that meets a pending disable)
pub played-more : (s : ReplaySettings) (rows : List Row) (i : ℕ) (d : Row) (old new : ReplayState) → i < length rows
    → after_rows s 1 (take i rows) start ≡ Ok old
    → is_early (get_or rows i d).event (get_or rows i d).device old ≡ false → new ≡ after_row s (i + 1) (get_or rows i d) old
    → after_rows s 1 (take (i + 1) rows) start ≡ Ok new
unfolding then_rows
played-more s rows i d old new below before on_time step =
    let row : Row = get_or rows i d in
    let appended = after_rows-append s 1 (i + 1) (take i rows) (row ∷ []) start (omega (arith, length-take i rows)) in
    ap (λ (l : List Row). after_rows s 1 l start) (take_more rows i d below) ∙ appended ∙ rw (before, on_time, step) refl

-- an early enable ends the replay
pub played-early : (s : ReplaySettings) (rows : List Row) (i : ℕ) (d : Row) (old : ReplayState) → i < length rows
    → after_rows s 1 (take i rows) start ≡ Ok old
    → is_early (get_or rows i d).event (get_or rows i d).device old ≡ true → after_all_rows s rows ≡ Err (Pending (i + 1))
unfolding then_rows
played-early s rows i d old below before early =
    let row : Row = get_or rows i d in
    let whole : rows ≡ take i rows ++ row ∷ drop (i + 1) rows = split-at rows i d below in
    let appended = after_rows-append s 1 (i + 1) (take i rows) (row ∷ drop (i + 1) rows) start (omega (arith, length-take i rows)) in
    ap (λ (l : List Row). after_rows s 1 l start) whole ∙ appended ∙ rw (before, early) refl

after_transmits-push : (rows : List Row) (row : Row) (all : Transmits)
    → after_transmits (rows ++ row ∷ []) all ≡ after_transmit row (after_transmits rows all)
after_transmits-push [] row all = refl
after_transmits-push (r ∷ rows) row all = after_transmits-push rows row (after_transmit r all)

-- the transmit sides after the first rows of a list, and one more
pub after_transmits-more : (rows : List Row) (all : Transmits) (i : ℕ) (d : Row) → i < length rows
    → after_transmits (take (i + 1) rows) all ≡ after_transmit (get_or rows i d) (after_transmits (take i rows) all)
after_transmits-more rows all i d below = rw (take_more rows i d below) (after_transmits-push (take i rows) (get_or rows i d) all)

-- if the rows have an error, it is that of their report
pub report-early : (s : ReplaySettings) (rows : List Row) (fault : ReplayFault) → after_all_rows s rows ≡ Err fault → (version : ℕ)
    → serial_report s version rows ≡ Err fault
report-early s rows fault early version = ap (report_of version (transmits_of rows)) early

-- the only error of rows is an early enable
rows-fault : (s : ReplaySettings) (n : ℕ) (rows : List Row) (w : ReplayState) (fault : ReplayFault) → after_rows s n rows w ≡ Err fault
    → (m : ℕ) × (fault ≡ Pending m)
rows-fault s n [] w fault e = absurd (cc e)
rows-fault s n (row ∷ rows) w fault e = by (is_early row.event row.device w) (rows-fault s (n + 1) rows (after_row s n row w) fault) e
  where
    by : (b : Bool) → (after_rows s (n + 1) rows (after_row s n row w) ≡ Err fault → (m : ℕ) × (fault ≡ Pending m))
        → (if b then Err (Pending n) else after_rows s (n + 1) rows (after_row s n row w)) ≡ Err fault → (m : ℕ) × (fault ≡ Pending m)
    by true rest e = let is : fault ≡ Pending n = cc e in (n, is)
    by false rest e = rest e

-- the only error of a report is an early enable too
report_written : (s : ReplaySettings) (version : ℕ) (rows : List Row) → serial_report s version rows ≡ Err OutputFailed → ⊥
report_written s version rows e = by (after_all_rows s rows) refl e
  where
    by : (r : Result ReplayState ReplayFault) → after_all_rows s rows ≡ r → report_of version (transmits_of rows) r ≡ Err OutputFailed → ⊥
    by (Ok w) is e = cc e
    by (Err fault) is e =
        let early = rows-fault s 1 rows start fault is in
        let failed : fault ≡ OutputFailed = cc e in
        cc (sym early.1 ∙ failed)

-- the error of rows isn't that of a failed output
pub unwritten : (s : ReplaySettings) (rows : List Row) (fault : ReplayFault) → IsSerialFault s rows fault → fault ≡ OutputFailed → ⊥
unwritten s rows fault (inl memory) = λ failed. cc (sym memory.0 ∙ failed)
unwritten s rows fault (inr early) = λ failed. report_written s 1 rows (early 1 ∙ ap Err failed)

pub unwritten-by : (fault : ReplayFault) → IsRowFault fault → fault ≡ OutputFailed → ⊥
unwritten-by fault (inl memory) = λ failed. cc (sym memory.0 ∙ failed)
unwritten-by fault (inr early) = λ failed. cc (sym early.1 ∙ failed)

-- four parts of a text, concatenated in any grouping
pub four-parts : (a b c d : List ℕ) → ((a ++ b) ++ c) ++ d ≡ a ++ (b ++ (c ++ d))
four-parts a b c d = append_assoc (a ++ b) c d ∙ append_assoc a b (c ++ d)
