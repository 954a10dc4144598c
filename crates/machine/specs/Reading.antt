-- The position of a reader of arrivals.
use Rattle.std.specs.Prelude.{◌≡◌, ⊤, ℕ, ◌+◌, false, List, [], ◌∷◌, ◌++◌, length, Option, Some, None, Result, Ok}
use Rattle.csv.specs.{Machine.{ends_at_end, next_record}, Reading.{default_config, reader_state, records_from}, declared.parser.State.State}
use Rattle.device_rows.specs.{Block.{Holds, left_remaining}, Source.{IsOpen, StandsAt}}
use Rattle.machine.specs.Arrivals.{arrivals_after, arrival_fields, last_moment, arrival_of_fields}
use Rattle.machine.specs.declared.arrivals.Arrivals.{Arrivals}
use Rattle.machine.specs.declared.arrivals.ArrivalRows.{ArrivalRows}
use Rattle.machine.specs.declared.arrivals.ArrivalRows.TheVariants.{Plain, Records, Failed}
use Rattle.machine.specs.declared.arrival.Arrival.{Arrival}
use Rattle.machine.specs.declared.fault.MachineFault.{MachineFault}
use Rattle.{device_rows.specs.declared.block.Block.Block, machine_model.specs.declared.settings.MachineSettings.MachineSettings}

-- all records of these bytes; the state of csv is one between two records
abbrev pub records_in : State → List ℕ → List (List (List ℕ))
records_in state bytes = records_from default_config (length bytes + 1) state bytes

-- the next record can be read
abbrev pub IsOpenAt : {R : Type 0} → ArrivalRows R → Type 0
IsOpenAt (Plain block) = ⊤
IsOpenAt (Records reader) = IsOpen reader
IsOpenAt Failed = ⊥

-- csv reads the next record
abbrev pub IsByRecords : {R : Type 0} → ArrivalRows R → Type 0
IsByRecords (Plain block) = ⊥
IsByRecords (Records reader) = IsOpen reader
IsByRecords Failed = ⊥

-- these bytes remain to be read, in this state of csv
abbrev pub LeftAt : {R : Type 0} → (R → Option (List ℕ)) → ArrivalRows R → State → List ℕ → Type 0
LeftAt remaining (Plain block) state bytes = (state ≡ State.StartRecord) × Holds remaining block bytes
LeftAt remaining (Records reader) state bytes = (state ≡ reader_state reader) × StandsAt (left_remaining remaining) reader bytes
LeftAt remaining Failed state bytes = ⊥

-- the header was read: the arrivals of the text are those of the remaining bytes
pub record IsTitled {R : Type 0} (remaining : R → Option (List ℕ)) (s : MachineSettings) (rows : ArrivalRows R)
    (all : Result (List Arrival) MachineFault) : Type 0 where
  pub state : State
  pub left : List ℕ
  pub stands : LeftAt remaining rows state left
  pub between : ends_at_end state ≡ false
  pub gives : all ≡ arrivals_after s [] (records_in state left)

-- the next record of these bytes is a plain row with this arrival, and the block continues after it
pub record TakesPlain {R : Type 0} (remaining : R → Option (List ℕ)) (s : MachineSettings) (row last : ℕ) (bytes : List ℕ)
    (arrival : Arrival)
    (after : Block R) : Type 0 where
  pub fields : List (List ℕ)
  pub rest : List ℕ
  pub holds : Holds remaining after rest
  pub reads : next_record default_config State.StartRecord [] [] bytes ≡ Some (fields, State.StartRecord, rest)
  pub tells : arrival_of_fields s row last (arrival_fields s.queues fields) ≡ Ok arrival

-- the same records remain
pub record LeavesSame {R : Type 0} (remaining : R → Option (List ℕ)) (after : ArrivalRows R) (state : State) (bytes : List ℕ) : Type 0 where
  pub state_after : State
  pub left : List ℕ
  pub stands : LeftAt remaining after state_after left
  pub between : ends_at_end state_after ≡ false
  pub same : records_in state bytes ≡ records_in state_after left

-- these arrivals were returned; together with the remaining ones they are all arrivals of the text
pub record HasGiven {R : Type 0} (remaining : R → Option (List ℕ)) (arrivals : Arrivals R) (earlier : List Arrival)
    (all : Result (List Arrival) MachineFault) : Type 0 where
  pub state : State
  pub left : List ℕ
  pub stands : LeftAt remaining arrivals.source state left
  pub between : ends_at_end state ≡ false
  pub rows : arrivals.rows ≡ length earlier
  pub last : arrivals.last ≡ last_moment earlier
  pub gives : all ≡ arrivals_after arrivals.settings earlier (records_in state left)

-- the next arrival is returned, or there is none left
abbrev pub GivesNextArrival : {R : Type 0} → (R → Option (List ℕ)) → Arrivals R → List Arrival → Result (List Arrival) MachineFault
    → Option Arrival → Type 0
GivesNextArrival remaining after earlier all None = all ≡ Ok earlier
GivesNextArrival remaining after earlier all (Some arrival) = HasGiven remaining after (earlier ++ arrival ∷ []) all
