-- How a program runs and ends. `S` is the type of its settings. The arguments ask for some settings, or for None if they are an
-- error. With these settings, the program makes a report or an error of the bytes of its input. `F` is the type of such errors;
-- `line`, without its line feed, and `status` are the message and the exit status of one, and `output_failed` is that of a
-- failed output.
use Rattle.std.specs.{Prelude.{◌≡◌, ◌⊎◌, ℕ, List, ◌++◌, Option, None, Some, Result, Ok, Err, codes}, Io.KnownBytes.Appends}
use Rattle.text_io.specs.Stops.{HasStopped}
use Rattle.text_io.specs.Written.{AppendsPart, LeavesBy}
use Rattle.text_io.specs.declared.program.ProgramFault.{ProgramFault}
use Rattle.text_io.specs.declared.program.ProgramFault.TheVariants.{Args, Run}
use Rattle.{device_rows.specs.Failures.IsTraceOutOfMemory}
use Rattle.text_io.specs.Refusals.{IsArgsOutOfMemory as IsRefusedArgs}
use Rattle.text_io.specs.Args.{word_fault_line as word_line}
use Rattle.text_io.specs.Args.{word_fault_status as word_status}
use Rattle.text_io.specs.declared.args.WordFault.TheVariants.{Usage, OutOfMemory}

-- the message on standard error, and the exit status
abbrev pub program_fault_line : {F : Type 0} → (F → List ℕ) → ProgramFault F → List ℕ
program_fault_line line (Args fault) = word_line fault
program_fault_line line (Run fault) = line fault ++ codes "\n"

abbrev pub program_fault_status : {F : Type 0} → (F → ℕ) → ProgramFault F → ℕ
program_fault_status status (Args fault) = word_status fault
program_fault_status status (Run fault) = status fault

-- the text is the report of the bytes under the settings of the arguments
abbrev pub IsTextBy : {S F : Type 0} → (Option S → Type 0) → (S → List ℕ → Result (List ℕ) F → Type 0) → List ℕ → List ℕ → Type 0
IsTextBy {S} asks answers bytes text = (settings : S) × asks (Some settings) × answers settings bytes (Ok text)

-- an error that a run on this input can have
abbrev pub IsFaultOn : {F : Type 0} → (List ℕ → Result (List ℕ) F → Type 0) → Option (List ℕ) → F → Type 0
IsFaultOn answers input fault = (bytes : List ℕ) → input ≡ Some bytes → answers bytes (Err fault)

-- the error is that of the arguments, or one that the run can have with their settings
abbrev pub IsFaultOf : {S F : Type 0} → (Option S → Type 0) → (S → List ℕ → Result (List ℕ) F → Type 0) → Option (List ℕ) → ProgramFault F
    → Type 0
IsFaultOf asks answers input (Args Usage) = asks None
IsFaultOf asks answers input (Args OutOfMemory) = IsRefusedArgs
IsFaultOf {S} asks answers input (Run fault) = (settings : S) × asks (Some settings) × IsFaultOn (answers settings) input fault

-- the answer is this report or this error, or an error from outside
abbrev pub AnswersBy : {F : Type 0} → (F → Type 0) → Result (List ℕ) F → Result (List ℕ) F → Type 0
AnswersBy IsOutside answer (Ok text) = answer ≡ Ok text
AnswersBy IsOutside answer (Err fault) = IsOutside fault ⊎ (answer ≡ Err fault)

-- The exit status is that of the error. Either its whole message was written to standard error and nothing else, or only a part
-- of it, because the writer stopped or an allocation failed.
pub record EndsBy {F : Type 0} (line_in : F → List ℕ) (status_in : F → ℕ) (fault : ProgramFault F) (old new : Option (List ℕ)) (code : ℕ)
    : Type 0 where
  pub status : code ≡ program_fault_status status_in fault
  pub line : Appends old new (program_fault_line line_in fault)
      ⊎ (AppendsPart old new (program_fault_line line_in fault) × (HasStopped ⊎ IsTraceOutOfMemory))

-- the program failed with some error that it can have. If the output failed, a part of the report of the bytes read was
-- written, and after each other error nothing
pub record FailedBy {S F : Type 0} (line_in : F → List ℕ) (status_in : F → ℕ) (output_failed : F) (asks : Option S → Type 0)
    (answers : S → List ℕ → Result (List ℕ) F → Type 0) (input old new old_errors new_errors : Option (List ℕ)) (code : ℕ) : Type 0 where
  pub fault : ProgramFault F
  pub why : IsFaultOf asks answers input fault
  pub output : LeavesBy (Run output_failed) (IsTextBy asks answers) input old new fault
  pub ends : EndsBy line_in status_in fault old_errors new_errors code
