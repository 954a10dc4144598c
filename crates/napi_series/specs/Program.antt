-- The whole program: which settings its arguments ask for, and its result for the bytes of its input.
use Rattle.std.specs.Prelude.{◌≡◌, ℕ, List, Option, Result, option_map}
use Rattle.napi_series.specs.{Series.series_by, Args.series_asked_for, declared.settings.SeriesSettings.SeriesSettings}
use Rattle.text_io.specs.{Outside.IsOutside, Program.AnswersBy, declared.fault.ReplayFault.ReplayFault, Args.{Text, replay_args_of}}
use Rattle.text_io.specs.declared.mode.ReplayMode.TheVariants.{Serial}

-- the arguments ask for these settings; for None if they are an error
abbrev pub AskForSeries : List Text → Option SeriesSettings → Type 0
AskForSeries words asked = series_asked_for words ≡ option_map (λ s. (s.options, replay_args_of (Serial, s.replay))) asked

-- the series of these bytes, or their error; otherwise the reader, an allocation or the writer failed
abbrev pub AnswersSeries : SeriesSettings → List ℕ → Result (List ℕ) ReplayFault → Type 0
AnswersSeries s bytes = AnswersBy IsOutside (series_by s bytes)
