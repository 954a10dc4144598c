-- From the rows of a trace to its stations, and from the result of a run on these to the report.
use Rattle.std.proofs.{lemmas.Grind.common_steps, lemmas.List.take_all, lemmas.List.Elements.All-filter, lemmas.List.Sums.sum_by-le}
use Rattle.std.proofs.lemmas.Slice.Zip.{all_zipped_more}
use Rattle.std.proofs.Common.{◌≡◌, ◌∙◌, ℕ, ◌+◌, ◌-◌, ◌<◌, ◌≤◌, ap, sym, subst, Bool, true, false, Some, None, List, [], ◌∷◌, ◌++◌}
use Rattle.std.proofs.{Common.{length, slice_index_or, take, get_or, refl, arith, flat_map}, Math.Nat.min-eq_left}
use Rattle.std.specs.List.{All, AllZip, find, range_with_len}
use Rattle.std.specs.{Prelude.{◌==◌, filter, map, nat_lt, option_map, sum_by}}
use Rattle.poll_engine.specs.{Runs.HasRun, declared.station.Station.Station, declared.station.Finished.Finished, Refusals.IsRefused}
use Rattle.poll_engine.specs.{declared.fault.WorkFault.WorkFault, Finishes.IsFinished}
use Rattle.device_rows.proofs.Accepted.{accepted-at}
use Rattle.device_rows.specs.{Row.value_fits, Trace.AcceptedAfter, declared.row.Row.Row, declared.event.RowEvent.RowEvent}
use Rattle.rx_ring.specs.ReceiveRing.{capped}
use Rattle.replay.proofs.{Rows.{filter-long, find-among, find-here, find-more, range-more}, ScriptFacts.{acts-made, arrivals-are}}
use Rattle.replay.specs.Script.{has_thread, is_act_of, is_open, is_rx, opening_of, openings_of, rx_of, script_of}
use Rattle.replay.specs.ScriptShown.{Script, acts, script_after, answer}
use Rattle.replay.specs.ThreadsReport.{arrived, bytes, threads_device_lines, is_opened}
use Rattle.replay.specs.ThreadsStations.{IsStationEnd, IsStationOf, end_lines, is_small, polled_of, small_fault}
use Rattle.replay.specs.ThreadsAnswer.{IsPolledDevice, IsReportedAs, IsThreadsOutside, overflows}
use Rattle.text_io.specs.{declared.fault.ReplayFault.ReplayFault}
use Rattle.text_io.specs.declared.fault.ReplayFault.TheVariants.{OutputFailed, RingTooSmall}
use Rattle.poll_engine.specs.declared.fault.WorkFault.TheVariants as work

-- ---- the ranges of a row's numbers, if it is accepted

value-small : (e : RowEvent) (v : ℕ) → value_fits e v ≡ true → v ≤ 65536
value-small e v h = grind (arith, common_steps)

abbrev IsSmall : Row → Type 0
IsSmall row = row.value ≤ 65536

values-small : (rows : List Row) → AcceptedAfter [] rows → All IsSmall rows
values-small rows h k d below = let a = accepted-at [] rows k d below h in
    value-small (get_or rows k d).event (get_or rows k d).value a.1.value

-- the sum of the bytes of a device's packets fits into 64 bits
pub bytes-small : (rows : List Row) (device : ℕ) → AcceptedAfter [] rows → length rows ≤ 100000 → bytes device rows ≤ 6553600000
bytes-small rows device h few =
    let acts = All-filter (is_act_of device) IsSmall rows (values-small rows h) in
    let small = All-filter (λ (row : Row). is_rx row.event) IsSmall (script_of device rows) acts in
    let sum = sum_by-le (λ (row : Row). row.value) 65536 (rx_of (script_of device rows)) small in
    let long = filter-long (λ (row : Row). is_rx row.event) (script_of device rows) in
    let short = filter-long (is_act_of device) rows in
    omega (arith, sum, long, short, few)

-- ---- the open row of a device

-- the open row of a device is one of the open rows
pub opening-among : (rows openings : List Row) (device : ℕ) → openings ≡ openings_of rows
    → opening_of device openings ≡ opening_of device rows
opening-among rows openings device e = rw e (find-among (λ (row : Row). is_open row.event) (λ (row : Row). row.device == device) rows)

-- the script of a device (its list of rows) is at its index
pub script-at : (rows : List Row) (scripts : List (List Row)) (device : ℕ) (script : List Row) → 1 ≤ device → device ≤ 16
    → script ≡ slice_index_or scripts (device - 1) []
    → ((place : ℕ) → device ≤ place + 1 → place < 16 → slice_index_or scripts place [] ≡ script_of (place + 1) rows)
    → script ≡ script_of device rows
script-at rows scripts device script low high e of = grind (arith, common_steps)

-- ---- rings

overflow-same : (rows : List Row) (device : ℕ) (station : Station Script) → IsStationOf rows device station
    → overflows rows device ≡ is_small station
overflow-same rows device station h = rw (h.its_opening, h.its_rows, h.its_capacity) refl

-- the first ring that is too small, by the rows, is that of the first station whose ring is too small
pub ring-of : (rows : List Row) (devices : List ℕ) (stations : List (Station Script)) → AllZip (IsStationOf rows) devices stations
    → option_map (λ device. RingTooSmall device (arrived device rows)) (find (overflows rows) devices) ≡ small_fault stations
ring-of rows [] [] h = refl
ring-of rows [] (s ∷ ss) h = absurd h
ring-of rows (d ∷ ds) [] h = absurd h
ring-of rows (d ∷ ds) (s ∷ ss) h = grind (arith, common_steps, overflow-same, ring-of rows ds ss h.1)

-- the station at this index is the first one whose ring is too small
pub small-here : (stations : List (Station Script)) (i : ℕ) (station : Station Script) → i < length stations
    → find is_small (take i stations) ≡ None → get_or stations i station ≡ station
    → is_small station ≡ true → Some (RingTooSmall station.number (length (rx_of station.device.rows))) ≡ small_fault stations
small-here stations i station below before here small = grind (arith, common_steps, find-here)

pub small-later : (stations : List (Station Script)) (i : ℕ) (station : Station Script) → i < length stations
    → find is_small (take i stations) ≡ None → get_or stations i station ≡ station
    → is_small station ≡ false → find is_small (take (i + 1) stations) ≡ None
small-later stations i station below before here large = find-more is_small stations i station below before (rw here large)

-- one more device was checked for its ring
pub station-here : (rows : List Row) (number : ℕ) (devices : List ℕ) (stations : List (Station Script)) (station : Station Script)
    → is_opened rows number ≡ true
    → IsStationOf rows number station → AllZip (IsStationOf rows) devices stations
    → AllZip (IsStationOf rows) (devices ++ filter (is_opened rows) (number ∷ [])) (stations ++ station ∷ [])
station-here rows number devices stations station is of before =
    rw is (all_zipped_more (IsStationOf rows) devices stations number station before of)

pub opened-more : (rows : List Row) (number : ℕ) → 1 ≤ number
    → filter (is_opened rows) (range_with_len 1 (number + 1 - 1))
    ≡ filter (is_opened rows) (range_with_len 1 (number - 1)) ++ filter (is_opened rows) (number ∷ [])
opened-more rows number one = grind (arith, common_steps, range-more)

-- ---- the result of a run on a station

capped-small : (n : ℕ) → n ≤ 6553600000 → capped n ≡ n
capped-small n h = min-eq_left (omega (arith, h))

-- the result of the run of this station, for the device after its acts
run-of : {rows : List Row} {device : ℕ} (station : Station Script) (end : Finished Script) → IsStationOf rows device station
    → end.device ≡ record station.device { made = length station.device.rows }
    → HasRun answer script_after station.capacity station.thread station.device (acts station.device) end.closed end.totals
    → HasRun answer script_after end.device.opening.value (has_thread end.device.rows) (record end.device { made = 0 })
    (length end.device.rows) end.closed end.totals
run-of station end of ended run =
    let H : ℕ → Bool → Script → ℕ → Type 0 =
    λ places thread script n. HasRun answer script_after places thread script n end.closed end.totals in
    let opening : end.device.opening ≡ station.device.opening = ap (λ (s : Script). s.opening) ended in
    let acted : end.device.rows ≡ station.device.rows = ap (λ (s : Script). s.rows) ended in
    let fresh : station.device ≡ record end.device { made = 0 } =
    λ i. record { opening = sym opening i; rows = sym acted i; made = of.its_made i } in
    let thread : station.thread ≡ has_thread end.device.rows =
    of.its_thread ∙ ap (λ l. has_thread l) (sym of.its_rows ∙ sym acted) in
    let places : station.capacity ≡ end.device.opening.value = of.its_capacity ∙ ap (λ (r : Row). r.value) (sym opening) in
    let by_places = subst (λ p. H p station.thread station.device (acts station.device)) places run in
    let by_thread = subst (λ t. H end.device.opening.value t station.device (acts station.device)) thread by_places in
    let by_script = subst (λ s. H end.device.opening.value (has_thread end.device.rows) s (acts station.device)) fresh by_thread in
    subst (λ n. H end.device.opening.value (has_thread end.device.rows) (record end.device { made = 0 }) n)
    (ap (λ l. length l) (sym acted)) by_script

not-small : (places packets : ℕ) → nat_lt places packets ≡ false → packets ≤ places
not-small places packets h = grind (arith, common_steps)

end-of : (answers : ℕ → ℕ → Bool → Type 0) (rows : List Row) (device : ℕ) (station : Station Script) (end : Finished Script)
    → AcceptedAfter [] rows → length rows ≤ 100000
    → IsStationOf rows device station → is_small station ≡ false
    → IsFinished acts answer script_after answers station end → IsStationEnd rows device end
end-of answers rows device station end accepted few of enough finished =
    let made : end.device ≡ record station.device { made = length station.device.rows } =
    finished.made ∙ acts-made station.device (acts station.device) of.its_made in
    let are = arrivals-are station.device (length station.device.rows) of.its_made (omega arith) in
    let whole : take (length station.device.rows) station.device.rows ≡ script_of device rows =
    take_all (length station.device.rows) station.device.rows (omega arith) ∙ of.its_rows in
    let long = are.0 ∙ ap (λ l. length (rx_of l)) whole in
    let script = ap (λ l. length (rx_of l)) of.its_rows in
    let fits = not-small station.capacity (length (rx_of station.device.rows)) enough in
    let put = finished.put (omega (arith, long, script, fits)) in
    record {
      its_number = finished.same_number ∙ of.its_number;
      its_opening = of.its_opening ∙ ap (λ (s : Script). Some s.opening) (sym made);
      its_rows = ap (λ (s : Script). s.rows) made ∙ of.its_rows;
      its_made = ap (λ (s : Script). s.made) made ∙ ap (λ (s : Script). length s.rows) (sym made);
      its_put = put.0 ∙ long;
      its_bytes = put.1 ∙ ap (λ n. capped n) (are.1 ∙ ap (λ l. sum_by (λ (row : Row). row.value) (rx_of l)) whole)
          ∙ capped-small _ (bytes-small rows device accepted few);
      sum = sym finished.sum;
      its_run = run-of station end of made finished.run;
    }

pub ends-of : (answers : ℕ → ℕ → Bool → Type 0) (rows : List Row) (devices : List ℕ) (stations : List (Station Script))
    (ends : List (Finished Script))
    → AcceptedAfter [] rows → length rows ≤ 100000
    → AllZip (IsStationOf rows) devices stations → find is_small stations ≡ None
    → AllZip (IsFinished acts answer script_after answers) stations ends
    → AllZip (IsStationEnd rows) devices ends
ends-of answers rows [] [] [] accepted few of enough finished = tt
ends-of answers rows [] [] (e ∷ es) accepted few of enough finished = absurd finished
ends-of answers rows [] (s ∷ ss) ends accepted few of enough finished = absurd of
ends-of answers rows (d ∷ ds) [] ends accepted few of enough finished = absurd of
ends-of answers rows (d ∷ ds) (s ∷ ss) [] accepted few of enough finished = absurd finished
ends-of answers rows (d ∷ ds) (s ∷ ss) (e ∷ es) accepted few of enough finished =
    by (is_small s) refl (λ rest. ends-of answers rows ds ss es accepted few of.1 rest finished.1)
  where
    by : (b : Bool) → is_small s ≡ b → (find is_small ss ≡ None → AllZip (IsStationEnd rows) ds es)
        → AllZip (IsStationEnd rows) (d ∷ ds) (e ∷ es)
    by true small go = absurd (let none = rw small at enough in cc none)
    by false large go = (end-of answers rows d s e accepted few of.0 large finished.0, go (rw large at enough))

-- no station's ring is too small
pub none-small : (stations : List (Station Script)) → small_fault stations ≡ None → find is_small stations ≡ None
none-small stations h = grind (arith, common_steps)

-- an error of the run is reported as one that isn't in the trace
pub told-outside : (may_shut : Type 0) (fault : WorkFault) (told : ReplayFault) → (fault ≡ work.GateShut → may_shut)
    → (fault ≡ work.SpawnFailed → IsRefused) → IsReportedAs fault told → IsThreadsOutside may_shut told
told-outside may_shut fault told gate spawn is = grind (arith, common_steps)

-- an error of the run is reported neither as one of the output nor as a ring that is too small
pub told-unwritten : (fault : WorkFault) (told : ReplayFault) → IsReportedAs fault told → told ≡ OutputFailed → ⊥
told-unwritten fault told is failed = grind (arith, common_steps)

pub small-unwritten : (stations : List (Station Script)) (fault : ReplayFault) → small_fault stations ≡ Some fault → fault ≡ OutputFailed
    → ⊥
small-unwritten stations fault is failed = grind (arith, common_steps)

-- ---- the report

lines-of : (rows : List Row) (device : ℕ) (end : Finished Script) → IsStationEnd rows device end
    → threads_device_lines rows device ≡ end_lines end
lines-of rows device end h = grind (arith, common_steps)

pub all-lines : (rows : List Row) (devices : List ℕ) (ends : List (Finished Script)) → AllZip (IsStationEnd rows) devices ends
    → (flat_map (threads_device_lines rows) devices ≡ flat_map end_lines ends) × (length devices ≡ length ends)
all-lines rows [] [] h = (refl, refl)
all-lines rows [] (e ∷ es) h = absurd h
all-lines rows (d ∷ ds) [] h = absurd h
all-lines rows (d ∷ ds) (e ∷ es) h = grind (arith, common_steps, lines-of, all-lines rows ds es h.1)

-- ---- the counts of the polls

pub all-polled : (rows : List Row) (devices : List ℕ) (ends : List (Finished Script)) → AllZip (IsStationEnd rows) devices ends
    → AllZip (IsPolledDevice rows) devices (map polled_of ends)
all-polled rows [] [] h = tt
all-polled rows [] (e ∷ es) h = absurd h
all-polled rows (d ∷ ds) [] h = absurd h
all-polled rows (d ∷ ds) (e ∷ es) h = (
  record { same_device = h.0.its_number; sum = h.0.sum ∙ h.0.its_put },
  all-polled rows ds es h.1,
)
