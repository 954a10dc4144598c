use Rattle.std.proofs.{Common.{◌≡◌, ◌⊎◌, Err, IfErr, Ok, inl, inr, List}}
use Rattle.{std.specs.Prelude.Result, replay_rows.specs.Replay.after_all_rows}
use Rattle.replay_rows.proofs.PlayFacts.{report-early, unwritten}
use Rattle.text_io.specs.{Outside.IsReplayOutOfMemory, declared.fault.ReplayFault.ReplayFault}
use Rattle.text_io.specs.{declared.fault.ReplayFault.TheVariants.OutputFailed, declared.settings.ReplaySettings.ReplaySettings}
use Rattle.device_rows.specs.declared.row.Row.{Row}
use Rattle.napi_series.proofs.series.raised_series.Goals as goal

-- an error of a row is never OutputFailed
never : {A : Type 0} (s : ReplaySettings) (rows : List Row) (r : Result A ReplayFault)
    → IfErr r (λ fault. IsReplayOutOfMemory fault ⊎ (after_all_rows s rows ≡ Err fault)) → IfErr r (λ fault. fault ≡ OutputFailed → ⊥)
never s rows (Ok a) h = tt
never s rows (Err fault) (inl memory) = unwritten s rows fault (inl memory)
never s rows (Err fault) (inr early) = unwritten s rows fault (inr (report-early s rows fault early))

pub returns-in_ok-rows-in-Some-clause-unwritten : goal.returns-in_ok-rows-in-Some-clause-unwritten
returns-in_ok-rows-in-Some-clause-unwritten c =
    never c.args.settings.now.replay c.as_slice.result.now c.series_of.result c.series_of.ensures.fault

pub returns-in-None-clause-unwritten : goal.returns-in-None-clause-unwritten
returns-in-None-clause-unwritten c =
    never c.args.settings.now.replay c.rows-in-None.result.now c.series_of-in-None.result c.series_of-in-None.ensures.fault
