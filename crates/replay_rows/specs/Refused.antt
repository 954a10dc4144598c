-- Why the rows of a trace have no report.
use Rattle.std.specs.Prelude.{◌≡◌, ◌⊎◌, ℕ, true, List, Err}
use Rattle.device_rows.specs.{declared.event.RowEvent.TheVariants.Enable, declared.row.Row.Row}
use Rattle.replay_rows.specs.{Replay.is_early, Report.serial_report, ReplayState.ReplayState}
use Rattle.text_io.specs.{Outside.IsReplayOutOfMemory, declared.fault.ReplayFault.ReplayFault}
use Rattle.text_io.specs.{declared.fault.ReplayFault.TheVariants.Pending, declared.settings.ReplaySettings.ReplaySettings}

-- an allocation failed, or the rows have an error: an enable row met a pending disable
abbrev pub IsSerialFault : ReplaySettings → List Row → ReplayFault → Type 0
IsSerialFault s rows fault = IsReplayOutOfMemory fault ⊎ ((version : ℕ) → serial_report s version rows ≡ Err fault)

-- the errors that the rows can have: an allocation failed, or an enable row met a pending disable
abbrev pub IsRowFault : ReplayFault → Type 0
IsRowFault fault = IsReplayOutOfMemory fault ⊎ ((n : ℕ) × (fault ≡ Pending n))

-- the error of row n, in the state after the rows before it
abbrev pub IsRefusedAt : ℕ → Row → ReplayState → ReplayFault → Type 0
IsRefusedAt n row w fault =
    IsReplayOutOfMemory fault ⊎ ((row.event ≡ Enable) × (fault ≡ Pending n) × (is_early row.event row.device w ≡ true))
