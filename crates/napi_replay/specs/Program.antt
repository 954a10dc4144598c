-- The whole program: which settings its arguments ask for, and its result for the bytes of its input.
use Rattle.std.specs.Prelude.{◌≡◌, ◌⊎◌, ℕ, List, Option, Some, Result, Ok, Err, option_map}
use Rattle.replay.specs.{ThreadsAnswer.{RanBy, threads_of}, SharedRun.RanShared, declared.polled.Polled.Polled}
use Rattle.text_io.specs.{Outside.IsOutside, Program.AnswersBy, declared.fault.ReplayFault.ReplayFault}
use Rattle.text_io.specs.{Args.{Text, replay_asked_for, replay_args_of}, declared.mode.ReplayMode.ReplayMode}
use Rattle.text_io.specs.{declared.mode.ReplayMode.TheVariants.{Serial, Shared, Threads}, declared.settings.ReplaySettings.ReplaySettings}
use Rattle.replay_rows.specs.Answer.{IsFaultOfTrace, replay_of}
use Rattle.replay.specs.ThreadsAnswer.{IsThreadsOutside as IsOutsideThreads}

-- the arguments ask for this mode and these settings; for None if they are an error
abbrev pub AskForReplay : List Text → Option (ReplayMode × ReplaySettings) → Type 0
AskForReplay words asked = replay_asked_for words ≡ option_map replay_args_of asked

-- in shared mode: some report, or an error that these bytes can have, or an error that isn't in the input. That the report is
-- serial mode's is tested.
abbrev pub AnswersShared : List ℕ → Result (List ℕ) ReplayFault → Type 0
AnswersShared bytes (Ok text) = Unit {0}
AnswersShared bytes (Err fault) = IsOutside fault ⊎ IsFaultOfTrace bytes fault

-- A mode's report of these bytes, or their error. An error that isn't in the input: the reader, an allocation or the writer failed,
-- or in threads mode a thread; a gate never stops a run here.
abbrev pub AnswersIn : ReplayMode → ReplaySettings → List ℕ → Result (List ℕ) ReplayFault → Type 0
AnswersIn Serial s bytes = AnswersBy IsOutside (replay_of s bytes)
AnswersIn Shared s bytes = AnswersShared bytes
AnswersIn Threads s bytes = AnswersBy (IsOutsideThreads ⊥) (threads_of bytes)

-- the report or the error in this mode with these settings
abbrev pub AnswersReplay : ReplayMode × ReplaySettings → List ℕ → Result (List ℕ) ReplayFault → Type 0
AnswersReplay asked bytes = AnswersIn asked.0 asked.1 bytes

-- In shared mode, the rows of the input were processed on instances that threads could share. In threads mode, they were polled
-- with these settings and with a gate that always returns true.
abbrev pub RanIn : Type 0 → ReplayMode → ReplaySettings → Option (List ℕ) → Type 0
RanIn R Serial s input = Unit
RanIn R Shared s input = RanShared input
RanIn R Threads s input = (told : List Polled) × RanBy R (λ by. Unit {0}) s input told

-- the rows were processed in the mode and with the settings that the arguments ask for
abbrev pub Ran : Type 0 → List Text → Option (List ℕ) → Type 0
Ran R words input = (asked : ReplayMode × ReplaySettings) × AskForReplay words (Some asked) × RanIn R asked.0 asked.1 input
