-- The serial tool: which settings its arguments ask for, and its result for the bytes of its input.
use Rattle.std.specs.Prelude.{◌≡◌, ℕ, List, Option, Result, option_map}
use Rattle.text_io.specs.{Outside.IsOutside, Program.AnswersBy, declared.fault.ReplayFault.ReplayFault}
use Rattle.text_io.specs.{Args.{Text, replay_args_of, serial_asked_for}, declared.mode.ReplayMode.TheVariants.Serial}
use Rattle.{text_io.specs.declared.settings.ReplaySettings.ReplaySettings, replay_rows.specs.Answer.replay_of}

-- the arguments ask for serial mode and these settings; for None if they are an error
abbrev pub AskForSerial : List Text → Option ReplaySettings → Type 0
AskForSerial words asked = serial_asked_for words ≡ option_map (λ settings. replay_args_of (Serial, settings)) asked

-- the report of these bytes, or their error; otherwise the reader, an allocation or the writer failed
abbrev pub AnswersSerial : ReplaySettings → List ℕ → Result (List ℕ) ReplayFault → Type 0
AnswersSerial settings bytes = AnswersBy IsOutside (replay_of settings bytes)
