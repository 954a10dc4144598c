-- The position of a reader of records.
use Rattle.std.specs.Prelude.{◌≡◌, ◌⊎◌, ℕ, Bool, true, false, List, Option, Some, None}
use Rattle.csv.specs.{Machine.Read, Reading.Ready}
use Rattle.csv.specs.Reading.{default_config, is_flexible, reader_config, reader_state, reader_trim, source_of}
use Rattle.{csv.specs.declared.reader.Reader.Reader, device_rows.specs.Failures.{HasFailed, IsTraceOutOfMemory}}
use Rattle.device_rows.specs.declared.source.ReadError.{ReadError}
use Rattle.device_rows.specs.declared.fault.TraceFault.{TraceFault, TheVariants.{ReadFailed, OutOfMemory}}
use Rattle.csv.specs.declared.reader.Trim.TheVariants as trim

-- the reader returns records by csv's defaults, of any length
pub record IsOpen {R : Type 0} (reader : Reader R) : Type 0 where
  pub config : reader_config reader ≡ default_config
  pub trim : reader_trim reader ≡ trim.None
  pub ready : Ready reader
  pub flexible : is_flexible reader ≡ true

-- these bytes remain to be read
abbrev pub StandsAt : {R : Type 0} → (R → Option (List ℕ)) → Reader R → List ℕ → Type 0
StandsAt remaining reader bytes = source_of remaining reader ≡ Some bytes

-- a read found the next record by definition, and the reader is after it
abbrev pub ReadsNext : {R : Type 0} → (R → Option (List ℕ)) → Option Read → Bool → List (List ℕ) → Reader R → Type 0
ReadsNext remaining None found fields after = found ≡ false
ReadsNext remaining (Some read) found fields after =
    (found ≡ true) × (fields ≡ read.0) × (reader_state after ≡ read.1) × StandsAt remaining after read.2

-- the reader failed, or an allocation, as the error says
abbrev pub HasCause : ReadError → Type 0
HasCause ReadError.ReadFailed = HasFailed
HasCause ReadError.OutOfMemory = IsTraceOutOfMemory

-- the reader failed, or an allocation
abbrev pub IsReadFailure : TraceFault → Type 0
IsReadFailure fault = ((fault ≡ ReadFailed) × HasFailed) ⊎ ((fault ≡ OutOfMemory) × IsTraceOutOfMemory)
