-- The arrivals of the remaining records, from those after the next record.
use Rattle.std.proofs.{Common.{◌≡◌, ◌∙◌, ℕ, ◌+◌, ◌-◌, ◌<◌, ◌≤◌, Bool, true, false, List, [], ◌∷◌, ◌++◌, drop, length, refl, sym, ap, Vec}}
use Rattle.std.{proofs.{Common.{arith, length-append, Some, None, Option}, lemmas.Grind.common_steps}, specs.Global.Global}
use Rattle.std.specs.{Prelude.{Result, Ok, Err, fold}, declared.io.{impls.Cursor.Cursor, traits.Chain.Chain}}
use Rattle.csv.specs.{Machine.{Read, ends_at_end, next_record}, Reading.{default_config, reader_state, records_from, records_next}}
use Rattle.csv.specs.{Reading.strip_bom, declared.{parser.State.State, reader.Reader.Reader}}
use Rattle.device_rows.proofs.{BlockFacts.used-up, RecordsFacts.{next-end, next-short, records-all}, RowsFacts.{records-next, records-none}}
use Rattle.device_rows.specs.{Block.{Holds, left_remaining, unread}, Source.{StandsAt, ReadsNext}, Trace.records_of}
use Rattle.device_rows.specs.declared.{block.Block.Block, fused.Fused.Fused}
use Rattle.machine.specs.Arrivals.{arrival_of, arrivals_after, arrivals_of, arrival_fields, is_arrivals_title, arrival_of_fields}
use Rattle.machine.specs.{Plain.{StartsWithArrival, StartsWithHeader}, Reading.{HasGiven, IsTitled, LeavesSame, LeftAt, TakesPlain}}
use Rattle.machine.specs.{Reading.records_in, declared.{arrival.Arrival.Arrival, arrivals.{ArrivalRows.ArrivalRows, Arrivals.Arrivals}}}
use Rattle.machine.specs.declared.fault.MachineFault.{MachineFault}
use Rattle.machine_model.specs.declared.settings.MachineSettings.{MachineSettings}

abbrev RecordsLeft : Type 0 → Type 0
RecordsLeft R = Reader (Chain (Cursor (Vec ℕ Global)) (Fused R))

-- the next record, followed by those of the remaining bytes
pub one-in : (state : State) (p : Read) (left : List ℕ) → ends_at_end state ≡ false
    → next_record default_config state [] [] left ≡ Some p
    → (ends_at_end p.1 ≡ false) × (records_in state left ≡ p.0 ∷ records_in p.1 p.2)
one-in state p left between reads =
    let (tidy, short) = next-short state [] [] left p reads in
    let some : length p.2 < length left = shorter left reads short in (
      tidy,
      records-next (length left + 1) (length left) state left (omega arith)
          ∙ ap (records_next (records_from default_config (length left))) reads
          ∙ ap (λ (rs : List (List (List ℕ))). p.0 ∷ rs) (records-all (length left) (length p.2 + 1) p.1 p.2 tidy some (omega arith)),
    )
  where
    shorter : (xs : List ℕ) → next_record default_config state [] [] xs ≡ Some p → length p.2 ≤ length xs - 1 → length p.2 < length xs
    shorter [] e short = cc (sym (next-end state between) ∙ e)
    shorter (x ∷ xs) e short = omega arith

-- the remaining records, after the reader has read one
more-in : {R : Type 0} (remaining : R → Option (List ℕ)) (reader after : Reader R) (fields : List (List ℕ)) (left : List ℕ)
    → ends_at_end (reader_state reader) ≡ false
    → ReadsNext remaining (next_record default_config (reader_state reader) [] [] left) true fields after
    → (rest : List ℕ) × StandsAt remaining after rest × (ends_at_end (reader_state after) ≡ false)
    × (records_in (reader_state reader) left ≡ fields ∷ records_in (reader_state after) rest)
more-in {R} remaining reader after fields left between h = by (next_record default_config (reader_state reader) [] [] left) refl h
  where
    by : (o : Option Read) → next_record default_config (reader_state reader) [] [] left ≡ o → ReadsNext remaining o true fields after
        → (rest : List ℕ) × StandsAt remaining after rest × (ends_at_end (reader_state after) ≡ false)
        × (records_in (reader_state reader) left ≡ fields ∷ records_in (reader_state after) rest)
    by None e h = cc h
    by (Some p) e h =
        let (tidy, one) = one-in (reader_state reader) p left between e in
        (p.2, h.3, ap ends_at_end h.2 ∙ tidy, rw (h.1, h.2) one)

-- no record remains
none-in : {R : Type 0} (remaining : R → Option (List ℕ)) (reader after : Reader R) (fields : List (List ℕ)) (left : List ℕ)
    → ReadsNext remaining (next_record default_config (reader_state reader) [] [] left) false fields after
    → records_in (reader_state reader) left ≡ []
none-in remaining reader after fields left h =
    records-none remaining reader after fields (length left + 1) (length left) left (omega arith) h

-- an empty line at the start isn't a record
pub empty-in : (left : List ℕ) → records_in State.StartRecord left ≡ records_in State.StartRecord (10 ∷ left)
unfolding next_record
empty-in left =
    let all : records_from default_config (length left + 1) State.StartRecord left
    ≡ records_from default_config (length left + 2) State.StartRecord left =
    records-all (length left + 1) (length left + 2) State.StartRecord left refl (omega arith) (omega arith) in
    let one : records_from default_config (length left + 2) State.StartRecord left
    ≡ records_from default_config (length (10 ∷ left) + 1) State.StartRecord (10 ∷ left) =
    records-next (length left + 2) (length left + 1) State.StartRecord left (omega arith)
    ∙ sym (records-next (length (10 ∷ left) + 1) (length left + 1) State.StartRecord (10 ∷ left) (omega arith)) in
    all ∙ one

pub all-in : (bytes : List ℕ) → records_of bytes ≡ records_in State.StartRecord (strip_bom bytes)
unfolding records_of
all-in bytes = refl

module _ (s : MachineSettings) where
  arrivals-none : (records : List (List (List ℕ))) → records ≡ [] → arrivals_of s records ≡ Err MachineFault.BadHeader
  unfolding arrivals_of
  arrivals-none records e = rw e refl

  arrivals-other : (records rest : List (List (List ℕ))) (fields : List (List ℕ)) → records ≡ fields ∷ rest
      → is_arrivals_title s.queues (arrival_fields s.queues fields) ≡ false
      → arrivals_of s records ≡ Err MachineFault.BadHeader
  unfolding arrivals_of
  arrivals-other records rest fields e h = rw (e, h) refl

  arrivals-behind : (records rest : List (List (List ℕ))) (fields : List (List ℕ)) → records ≡ fields ∷ rest
      → is_arrivals_title s.queues (arrival_fields s.queues fields) ≡ true
      → arrivals_of s records ≡ arrivals_after s [] rest
  unfolding arrivals_of
  arrivals-behind records rest fields e h = rw (e, h) refl

  after-end : (earlier : List Arrival) → arrivals_after s earlier [] ≡ Ok earlier
  unfolding arrivals_after
  after-end earlier = refl

  after-bad : (earlier : List Arrival) (fields : List (List ℕ)) (records : List (List (List ℕ))) (fault : MachineFault)
      → arrival_of s earlier fields ≡ Err fault
      → arrivals_after s earlier (fields ∷ records) ≡ Err fault
  unfolding arrivals_after
  after-bad earlier fields records fault e = rw e refl

  after-good : (earlier : List Arrival) (fields : List (List ℕ)) (records : List (List (List ℕ))) (arrival : Arrival)
      → arrival_of s earlier fields ≡ Ok arrival
      → arrivals_after s earlier (fields ∷ records) ≡ arrivals_after s (earlier ++ arrival ∷ []) records
  unfolding arrivals_after
  after-good earlier fields records arrival e = rw e refl

pub last-push : (first : ℕ) (earlier : List Arrival) (arrival : Arrival)
    → fold (λ _ a. a.moment) first (earlier ++ arrival ∷ []) ≡ arrival.moment
last-push first earlier arrival = grind (arith, common_steps)

between-start : (state : State) → state ≡ State.StartRecord → ends_at_end state ≡ false
between-start state e = ap ends_at_end e

-- what the first record implies for the result
module _ {R : Type 0} (remaining : R → Option (List ℕ)) (reader after : Reader R) (fields : List (List ℕ)) (s : MachineSettings)
    (bytes : List ℕ) (at : reader_state reader ≡ State.StartRecord) where
  -- there is no first record
  pub refused-start : ReadsNext remaining (next_record default_config (reader_state reader) [] [] bytes) false fields after
      → arrivals_of s (records_in State.StartRecord bytes) ≡ Err MachineFault.BadHeader
  refused-start h = arrivals-none s _ (sym (ap (λ t. records_in t bytes) at) ∙ none-in remaining reader after fields bytes h)

  -- the first record isn't the header
  pub refused-title : ReadsNext remaining (next_record default_config (reader_state reader) [] [] bytes) true fields after
      → is_arrivals_title s.queues (arrival_fields s.queues fields) ≡ false
      → arrivals_of s (records_in State.StartRecord bytes) ≡ Err MachineFault.BadHeader
  refused-title h other =
      let (rest, stands, between, one) = more-in remaining reader after fields bytes (between-start _ at) h in
      arrivals-other s _ _ fields (sym (ap (λ t. records_in t bytes) at) ∙ one) other

  -- the first record is the header
  pub behind-title : ReadsNext remaining (next_record default_config (reader_state reader) [] [] bytes) true fields after
      → is_arrivals_title s.queues (arrival_fields s.queues fields) ≡ true
      → (rest : List ℕ) × StandsAt remaining after rest × (ends_at_end (reader_state after) ≡ false)
      × (arrivals_of s (records_in State.StartRecord bytes) ≡ arrivals_after s [] (records_in (reader_state after) rest))
  behind-title h titled =
      let (rest, stands, between, one) = more-in remaining reader after fields bytes (between-start _ at) h in
      (rest, stands, between, arrivals-behind s _ _ fields (sym (ap (λ t. records_in t bytes) at) ∙ one) titled)

-- the header is plain
pub behind-header : {R : Type 0} (remaining : R → Option (List ℕ)) (old new : Block R) (s : MachineSettings) (text rest bytes : List ℕ)
    (count : ℕ) → text ≡ unread old → StartsWithHeader s.queues text rest → count ≡ length text - length rest
    → unread new ≡ drop count (unread old) → new.source ≡ old.source → Holds remaining old bytes
    → IsTitled remaining s (ArrivalRows.Plain new) (arrivals_of s (records_of bytes))
behind-header remaining old new s text rest bytes count is header size behind same holds =
    let starts = header.title.starts in
    let (more, all, stands) = used-up remaining old new text starts.used rest bytes count is starts.splits size behind same holds in
    let reads : next_record default_config State.StartRecord [] [] (strip_bom bytes)
    ≡ Some (header.fields, State.StartRecord, rest ++ more) =
    ap (λ b. next_record default_config State.StartRecord [] [] (strip_bom b)) all
    ∙ ap (next_record default_config State.StartRecord [] []) (header.title.unmarked more) ∙ starts.reads more in
    let (between, one) = one-in State.StartRecord (header.fields, State.StartRecord, rest ++ more) (strip_bom bytes) refl reads in
    record {
      state = State.StartRecord;
      left = rest ++ more;
      stands = (refl, stands);
      between = refl;
      gives = arrivals-behind s _ _ header.fields (all-in bytes ∙ one) header.tells;
    }

-- a plain row of a block was consumed
pub plain-taken : {R : Type 0} (remaining : R → Option (List ℕ)) (old new : Block R) (s : MachineSettings) (row last : ℕ)
    (text rest bytes : List ℕ) (arrival : Arrival) (count : ℕ) → text ≡ unread old → StartsWithArrival s row last text arrival rest
    → count ≡ length text - length rest
    → unread new ≡ drop count (unread old) → new.source ≡ old.source → Holds remaining old bytes
    → TakesPlain remaining s row last bytes arrival new
plain-taken remaining old new s row last text rest bytes arrival count is found size behind same holds =
    let starts = found.starts in
    let (more, all, stands) = used-up remaining old new text starts.used rest bytes count is starts.splits size behind same holds in
    record {
      fields = found.fields;
      rest = rest ++ more;
      holds = stands;
      reads = ap (next_record default_config State.StartRecord [] []) all ∙ starts.reads more;
      tells = found.tells;
    }

module _ {R : Type 0} (remaining : R → Option (List ℕ)) (old : Arrivals R) (earlier : List Arrival)
    (all : Result (List Arrival) MachineFault) (given : HasGiven remaining old earlier all) where
  told-as : (row : ℕ) (fields : List (List ℕ)) → row ≡ old.rows + 1
      → arrival_of old.settings earlier fields ≡ arrival_of_fields old.settings row old.last (arrival_fields old.settings.queues fields)
  told-as row fields rows = grind (arith, common_steps, given.rows, given.last)

  -- one more arrival was returned: that of the next record
  given-one : (new : Arrivals R) (fields : List (List ℕ)) (state : State) (rest : List ℕ) (arrival : Arrival)
      → LeftAt remaining new.source state rest → ends_at_end state ≡ false
      → records_in given.state given.left ≡ fields ∷ records_in state rest
      → new.settings ≡ old.settings → new.rows ≡ old.rows + 1 → new.last ≡ arrival.moment
      → arrival_of_fields old.settings new.rows old.last (arrival_fields old.settings.queues fields) ≡ Ok arrival
      → HasGiven remaining new (earlier ++ arrival ∷ []) all
  given-one new fields state rest arrival stands between one settings rows last told = record {
    state = state;
    left = rest;
    stands = stands;
    between = between;
    rows = omega (arith, rows, given.rows, length-append earlier (arrival ∷ []));
    last = last ∙ sym (last-push 0 earlier arrival);
    gives = given.gives ∙ ap (arrivals_after old.settings earlier) one
        ∙ after-good old.settings earlier fields _ arrival (told-as new.rows fields rows ∙ told)
        ∙ ap (λ n. arrivals_after n (earlier ++ arrival ∷ []) (records_in state rest)) (sym settings);
  }

  -- one more arrival was returned: that of a plain row
  pub given-plain : (new : Arrivals R) (before after : Block R) (row : ℕ) (arrival : Arrival)
      → old.source ≡ ArrivalRows.Plain before → new.source ≡ ArrivalRows.Plain after
      → ((bytes : List ℕ) → Holds remaining before bytes → TakesPlain remaining old.settings row old.last bytes arrival after)
      → new.settings ≡ old.settings → row ≡ old.rows + 1 → new.rows ≡ row → new.last ≡ arrival.moment
      → HasGiven remaining new (earlier ++ arrival ∷ []) all
  given-plain new before after row arrival was is takes settings next rows last =
      let (at, holds) : LeftAt remaining (ArrivalRows.Plain before) given.state given.left = rw was at given.stands in
      let taken = takes given.left holds in
      let reads : next_record default_config given.state [] [] given.left ≡ Some (taken.fields, State.StartRecord, taken.rest) =
      ap (λ s. next_record default_config s [] [] given.left) at ∙ taken.reads in
      let (between, one) = one-in given.state (taken.fields, State.StartRecord, taken.rest) given.left given.between reads in
      let stands : LeftAt remaining (ArrivalRows.Plain after) State.StartRecord taken.rest = (refl, taken.holds) in
      given-one new taken.fields State.StartRecord taken.rest arrival (rw is stands) between one settings (rows ∙ next) last
      (ap (λ n. arrival_of_fields old.settings n old.last (arrival_fields old.settings.queues taken.fields)) rows ∙ taken.tells)

  -- the same records remain, in another form
  pub given-same : (new : Arrivals R) → new.settings ≡ old.settings → new.rows ≡ old.rows → new.last ≡ old.last
      → ((state : State) (bytes : List ℕ) → LeftAt remaining old.source state bytes → ends_at_end state ≡ false
      → LeavesSame remaining new.source state bytes) → HasGiven remaining new earlier all
  given-same new settings rows last leaves =
      let same = leaves given.state given.left given.stands given.between in
      record {
        state = same.state_after;
        left = same.left;
        stands = same.stands;
        between = same.between;
        rows = rows ∙ given.rows;
        last = last ∙ given.last;
        gives = given.gives ∙ ap (arrivals_after old.settings earlier) same.same
            ∙ ap (λ n. arrivals_after n earlier (records_in same.state_after same.left)) (sym settings);
      }

  -- the result of a read by csv
  module _ (reader after : RecordsLeft R) (fields : List (List ℕ)) (was : old.source ≡ ArrivalRows.Records reader) where
    abbrev Takes : Bool → Type 0
    Takes found = (bytes : List ℕ) → StandsAt (left_remaining remaining) reader bytes
        → ReadsNext (left_remaining remaining) (next_record default_config (reader_state reader) [] [] bytes) found fields after

    at-reader : LeftAt remaining (ArrivalRows.Records reader) given.state given.left
    at-reader = rw was at given.stands

    -- the case of the end of the text
    pub given-end : Takes false → all ≡ Ok earlier
    given-end h =
        let (at, stands) = at-reader in
        given.gives ∙ ap (λ s. arrivals_after old.settings earlier (records_in s given.left)) at
        ∙ ap (arrivals_after old.settings earlier) (none-in (left_remaining remaining) reader after fields given.left (h given.left stands))
        ∙ after-end old.settings earlier

    taken : Takes true → (rest : List ℕ) × StandsAt (left_remaining remaining) after rest × (ends_at_end (reader_state after) ≡ false)
        × (records_in given.state given.left ≡ fields ∷ records_in (reader_state after) rest)
    taken h =
        let (at, stands) = at-reader in
        let between : ends_at_end (reader_state reader) ≡ false = rw at at given.between in
        let (rest, left, tidy, one) = more-in (left_remaining remaining) reader after fields given.left between (h given.left stands) in
        (rest, left, tidy, ap (λ s. records_in s given.left) at ∙ one)

    -- the case of a row with an error
    pub given-fault : (row : ℕ) (fault : MachineFault) → Takes true → row ≡ old.rows + 1
        → arrival_of_fields old.settings row old.last (arrival_fields old.settings.queues fields) ≡ Err fault → all ≡ Err fault
    given-fault row fault h rows told =
        let (rest, stands, between, one) = taken h in
        given.gives ∙ ap (arrivals_after old.settings earlier) one
        ∙ after-bad old.settings earlier fields _ fault (told-as row fields rows ∙ told)

    -- the case of one more arrival
    pub given-next : (new : Arrivals R) (row : ℕ) (arrival : Arrival) → Takes true → new.source ≡ ArrivalRows.Records after
        → new.settings ≡ old.settings → row ≡ old.rows + 1 → new.rows ≡ row → new.last ≡ arrival.moment
        → arrival_of_fields old.settings row old.last (arrival_fields old.settings.queues fields) ≡ Ok arrival
        → HasGiven remaining new (earlier ++ arrival ∷ []) all
    given-next new row arrival h is settings next rows last told =
        let (rest, stands, between, one) = taken h in
        let left : LeftAt remaining (ArrivalRows.Records after) (reader_state after) rest = (refl, stands) in
        given-one new fields (reader_state after) rest arrival (rw is left) between one settings (rows ∙ next) last
        (ap (λ n. arrival_of_fields old.settings n old.last (arrival_fields old.settings.queues fields)) rows ∙ told)
