-- What a trace that is accepted implies for the open row of a device.
use Rattle.std.{proofs.{Common.{arith, ◌≡◌, ℕ, ◌≤◌, Bool, true, Some, List, [], ◌∷◌, ◌++◌}, lemmas.Grind.common_steps}, specs.Prelude.◌&&◌}
use Rattle.{std.specs.List.find, device_rows.specs.{Row.value_fits, Trace.AcceptedAfter, declared.{event.RowEvent.RowEvent, row.Row.Row}}}
use Rattle.replay.specs.Script.{is_open, opens}

open-large : (e : RowEvent) (v : ℕ) → is_open e ≡ true → value_fits e v ≡ true → (1 ≤ v) × (v ≤ 65536)
open-large e v o h = grind (arith, common_steps)

and-front : (a b : Bool) → (a && b) ≡ true → a ≡ true
and-front a b e = grind (arith, common_steps)

-- the ring capacity of an open row is in its range
pub opened-within : (earlier rows : List Row) (device : ℕ) (row : Row) → AcceptedAfter earlier rows → find (opens device) rows ≡ Some row
    → (1 ≤ row.value) × (row.value ≤ 65536)
opened-within earlier [] device row h e = cc e
opened-within earlier (r ∷ rs) device row h e =
    grind (arith, common_steps, and-front, open-large, opens, opened-within (earlier ++ r ∷ []) rs device row h.1)
