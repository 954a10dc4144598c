-- A device whose acts are a script (the list of its rows), as contracts see it.
use Rattle.std.specs.Prelude.{◌≡◌, ◌≤◌, ℕ, ◌+◌, ◌==◌, List, if◌then◌else◌, length, take}
use Rattle.device_bench.specs.{Transmit.{ShowsTransmit, TransmitView}, declared.transmit.Transmit.Transmit}
use Rattle.{device_rows.specs.declared.row.Row.Row, poll_engine.specs.declared.acts.Act.Act}
use Rattle.replay.specs.Script.{act_at, rx_of, side_after}
use Rattle.poll_engine.specs.declared.acts.Act.TheVariants as act

pub record Script : Type 0 where
  -- the row that opened the device
  pub opening : Row
  -- its rows after that one
  pub rows : List Row
  -- how many of these rows were turned into acts
  pub made : ℕ

abbrev pub acts : Script → ℕ
acts script = length script.rows

-- act k; `Nothing` if the acts are asked for out of order
abbrev pub answer : Script → ℕ → Act
answer script k = if k == script.made then act_at script.rows k else act.Nothing

abbrev pub script_after : Script → ℕ → Script
script_after script k = if k == script.made then record script { made = script.made + 1 } else script

-- its transmit side after the acts made so far
abbrev pub side_of : Script → TransmitView
side_of script = side_after script.opening (take script.made script.rows)

-- the stored transmit side is the one after the rows so far, and their packets were counted
pub record IsScriptKept (opening : Row) (rows : List Row) (made counted : ℕ) (side : Transmit) : Type 0 where
  pub few : length rows ≤ 100000
  pub within : made ≤ length rows
  pub packets : counted ≡ length (rx_of (take made rows))
  pub transmit : ShowsTransmit side (side_after opening (take made rows))
