-- The program: what its arguments ask for, and how it answers the bytes of its input.
use Rattle.std.specs.Prelude.{◌≡◌, ◌⊎◌, ◌||◌, ◌++◌, ℕ, [], ◌∷◌, Bool, true, false, codes, List, Option, Some, None, Result, Ok, Err}
use Rattle.std.specs.Str.{bytes_eq}
use Rattle.machine.specs.Answer.{IsArrivalsFault, IsReportOf}
use Rattle.machine.specs.Fault.{IsMachineOutside}
use Rattle.machine.specs.declared.fault.MachineFault.{MachineFault}
use Rattle.machine_model.specs.{Options.{machine_asked_for, values_of}}
use Rattle.napi_machine.specs.declared.Asked.{Asked}
use Rattle.napi_machine.specs.declared.Asked.TheVariants.{Machine, Help, Version}
use Rattle.text_io.specs.Given.{Text}

-- whether this is the only argument
abbrev pub is_only : Text → List Text → Bool
is_only name [] = false
is_only name (word ∷ []) = bytes_eq word name
is_only name (word ∷ next ∷ more) = false

abbrev pub is_text : List Text → Bool
is_text words = is_only (codes "--help") words || is_only (codes "--version") words

-- the arguments ask for this; for None if they are an error
abbrev pub AskForMachine : List Text → Option Asked → Type 0
AskForMachine words (Some (Machine settings)) = (is_text words ≡ false) × (machine_asked_for words ≡ Some (values_of settings))
AskForMachine words (Some Help) = is_only (codes "--help") words ≡ true
AskForMachine words (Some Version) = is_only (codes "--version") words ≡ true
AskForMachine words None = (is_text words ≡ false) × (machine_asked_for words ≡ None)

-- the text that `--help` asks for
abbrev pub help_text : List ℕ
help_text =
    codes "usage: napi_machine [--OPTION VALUE ..] < ARRIVALS\n"
    ++ codes "Predicts latency, drops and processor time of a receiving Linux machine.\n"
    ++ codes "man napi_machine explains the options.\n"

-- the text that `--version` asks for
abbrev pub version_text : List ℕ
version_text = codes "napi_machine 3.0.0\n"

-- the machine's report of these bytes, or their error; otherwise the reader, an allocation or the writer failed
abbrev pub AnswersMachine : Asked → List ℕ → Result (List ℕ) MachineFault → Type 0
AnswersMachine (Machine settings) bytes (Ok text) = IsReportOf settings bytes text
AnswersMachine (Machine settings) bytes (Err fault) = IsMachineOutside fault ⊎ IsArrivalsFault settings bytes fault
AnswersMachine Help bytes (Ok text) = text ≡ help_text
AnswersMachine Help bytes (Err fault) = IsMachineOutside fault
AnswersMachine Version bytes (Ok text) = text ≡ version_text
AnswersMachine Version bytes (Err fault) = IsMachineOutside fault
