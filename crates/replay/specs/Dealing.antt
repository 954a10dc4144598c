-- The scripts of all devices (the list of each device's rows), in one list.
use Rattle.std.specs.{Prelude.{◌≡◌, ℕ, ◌+◌, ◌<◌, List, [], map, slice_index_or, vec_items}, Global.Vec}
use Rattle.{device_rows.specs.declared.row.Row.Row, replay.specs.Script.script_of}

abbrev pub lists : Vec (Vec Row) → List (List Row)
lists scripts = map (λ script. vec_items script) (vec_items scripts)

-- the list at index i has the rows of device i + 1
abbrev pub AreScripts : List (List Row) → List Row → Type 0
AreScripts scripts rows = (place : ℕ) → place < 16 → slice_index_or scripts place [] ≡ script_of (place + 1) rows
