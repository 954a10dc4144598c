-- The command line: what it asks for, and the number, the message and the exit status of each error.
use Rattle.std.specs.{Prelude.{ℕ, [], ◌∷◌, List, Option, Some, None, if◌then◌else◌, codes}, Str.bytes_eq}
use Rattle.text_io.specs.Defaults.{default_budget, default_pollers, default_weight, default_window}
use Rattle.text_io.specs.Given.{◌>>=◌, given_by, number_within}
use Rattle.text_io.specs.Given.{or_default, value_of}
pub use Rattle.text_io.specs.Given.{Text}
use Rattle.text_io.specs.declared.mode.ReplayMode.{ReplayMode}
use Rattle.text_io.specs.declared.mode.ReplayMode.TheVariants.{Serial, Shared, Threads}
use Rattle.text_io.specs.declared.settings.ReplaySettings.{ReplaySettings}
use Rattle.text_io.specs.declared.args.WordFault.{WordFault}
use Rattle.text_io.specs.declared.args.WordFault.TheVariants.{Usage, OutOfMemory}

-- the number of an error
abbrev pub fault_number : WordFault → ℕ
fault_number Usage = 1
fault_number OutOfMemory = 2

abbrev pub word_fault_line : WordFault → List ℕ
word_fault_line Usage = codes "usage fault 64\n"
word_fault_line OutOfMemory = codes "memory fault 11 OutOfMemory\n"

abbrev pub word_fault_status : WordFault → ℕ
word_fault_status Usage = 64
word_fault_status OutOfMemory = 4

-- ---- what is asked for

pub record ReplayArgs : Type 0 where
  pub mode : ReplayMode
  pub pollers : ℕ
  pub budget : ℕ
  pub weight : ℕ
  pub window : ℕ

abbrev pub replay_args_of : ReplayMode × ReplaySettings → ReplayArgs
replay_args_of asked = record {
  mode = asked.0;
  pollers = asked.1.pollers;
  budget = asked.1.budget;
  weight = asked.1.weight;
  window = asked.1.window;
}

-- the mode with this name
abbrev pub mode_of : Text → Option ReplayMode
mode_of word =
    if bytes_eq word (codes "serial") then Some Serial
    else (if bytes_eq word (codes "shared") then Some Shared
    else (if bytes_eq word (codes "threads") then Some Threads else None))

-- the number from 1 to `high` that one to five digits denote
abbrev pub number_up_to : ℕ → Text → Option ℕ
number_up_to high text = number_within 5 1 high text

abbrev pub replay_option_names : List Text
replay_option_names = codes "mode" ∷ codes "pollers" ∷ codes "budget" ∷ codes "weight" ∷ codes "window" ∷ []

-- the replay that the values of the options ask for
abbrev pub replay_args_with : (Text → Option Text) → Option ReplayArgs
replay_args_with value = do
  mode ← or_default Serial mode_of (value (codes "mode"))
  pollers ← or_default default_pollers (number_up_to 8) (value (codes "pollers"))
  budget ← or_default default_budget (number_up_to 65535) (value (codes "budget"))
  weight ← or_default default_weight (number_up_to 64) (value (codes "weight"))
  window ← or_default default_window (number_up_to 65535) (value (codes "window"))
  Some (record { mode = mode; pollers = pollers; budget = budget; weight = weight; window = window })

-- the replay that the arguments ask for, or None if they are an error
abbrev pub replay_asked_for : List Text → Option ReplayArgs
replay_asked_for words = given_by replay_option_names words >>= (λ given. replay_args_with (λ name. value_of name given))

-- ---- serial mode only

abbrev pub serial_only : ReplayArgs → ReplayMode → Option ReplayArgs
serial_only asked Serial = Some asked
serial_only asked Shared = None
serial_only asked Threads = None

-- the replay that the arguments ask for, in a program that has only serial mode; None if they are an error
abbrev pub serial_asked_for : List Text → Option ReplayArgs
serial_asked_for words = replay_asked_for words >>= (λ asked. serial_only asked asked.mode)
