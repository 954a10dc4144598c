-- How one more row is added to the script of its device (the list of the device's rows).
use Rattle.std.proofs.lemmas.Grind.{common_steps}
use Rattle.std.proofs.Common.{◌≡◌, ℕ, ◌-◌, ◌≤◌, Bool, true, false, List, [], ◌∷◌, ◌++◌, length, slice_index_or, slice_set, arith}
use Rattle.std.specs.Prelude.{◌==◌}
use Rattle.{device_rows.specs.declared.row.Row.Row, replay.specs.{Script.{is_act_of, is_open, script_of}, Dealing.AreScripts}}
use Rattle.replay.proofs.Rows.{filter-one}

script-other : (device : ℕ) (rows : List Row) (row : Row) → is_act_of device row ≡ false
    → script_of device (rows ++ row ∷ []) ≡ script_of device rows
script-other device rows row e = grind (arith, common_steps, filter-one)

script-same : (device : ℕ) (rows : List Row) (row : Row) → is_act_of device row ≡ true
    → script_of device (rows ++ row ∷ []) ≡ script_of device rows ++ row ∷ []
script-same device rows row e = grind (arith, common_steps, filter-one)

other-device : (device : ℕ) (row : Row) (b : Bool) → is_open row.event ≡ b → (row.device == device) ≡ false → is_act_of device row ≡ false
other-device device row b o h = grind (arith, common_steps)

-- a row that doesn't open its device is appended to the device's script
pub dealt : (scripts : List (List Row)) (rows : List Row) (row : Row) → is_open row.event ≡ false → 1 ≤ row.device → row.device ≤ 16
    → length scripts ≡ 16 → AreScripts scripts rows
    → AreScripts (slice_set scripts (row.device - 1) (slice_index_or scripts (row.device - 1) [] ++ row ∷ [])) (rows ++ row ∷ [])
dealt scripts rows row o low high size before place below = grind (arith, common_steps, other-device, script-other, script-same)

open-row : (device : ℕ) (row : Row) → is_open row.event ≡ true → is_act_of device row ≡ false
open-row device row o = grind (arith, common_steps)

-- a row that opens its device is in no script
pub opened : (scripts : List (List Row)) (rows : List Row) (row : Row) → is_open row.event ≡ true → 1 ≤ row.device → row.device ≤ 16
    → length scripts ≡ 16 → AreScripts scripts rows
    → AreScripts (slice_set scripts (row.device - 1) (slice_index_or scripts (row.device - 1) [])) (rows ++ row ∷ [])
opened scripts rows row o low high size before place below = grind (arith, common_steps, open-row, script-other)
