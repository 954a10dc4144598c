-- Which rows the earlier rows of a device allow: errors 6 to 8. See docs/FORMATS.md, "The trace".
use Rattle.std.specs.Prelude.{◌≡◌, ℕ, ◌+◌, ◌<◌, ◌==◌, true, List, [], ◌∷◌, map, filter, Option, Some, None, unwrap_or, slice_index_or}
use Rattle.{std.specs.Prelude.{Result, Ok, Err}, device_rows.specs.{Row.{device_fits, value_fits}, declared.event.RowEvent.RowEvent}}
use Rattle.device_rows.specs.declared.event.RowEvent.TheVariants.{Opened, Softirq, Disable, Enable}
use Rattle.device_rows.specs.declared.{fault.TraceFault.{TraceFault, TheVariants.{UnknownDevice, OpenTwice, WrongState}}, row.Row.Row}
use Rattle.device_rows.specs.declared.switch.Switch.{Switch, TheVariants.{Unopened, On, Off}}

-- the state in which a row of this event leaves its device, if it sets it
abbrev pub set_by : RowEvent → Option Switch
set_by Opened = Some On
set_by Enable = Some On
set_by Disable = Some Off
set_by _ = None

-- the events of a device, in order
abbrev pub events_of : ℕ → List Row → List RowEvent
events_of device rows = map (λ row. row.event) (filter (λ row. row.device == device) rows)

abbrev pub switch_after : Switch → List RowEvent → Switch
switch_after switch [] = switch
switch_after switch (event ∷ events) = switch_after (unwrap_or (set_by event) switch) events

-- the state in which the rows leave a device: unopened, on or off
unfoldable pub switch_of : ℕ → List Row → Switch
switch_of device rows = switch_after Unopened (events_of device rows)

-- the error of row n if its device isn't open, for an event that needs an open device
abbrev pub wants_open : ℕ → Switch → Option TraceFault
wants_open n Unopened = Some (UnknownDevice n)
wants_open n On = None
wants_open n Off = None

-- the error of row n, if there is one, by the state in which earlier rows leave its device. Disable and enable alternate:
-- `napi_disable` of a disabled instance waits forever, and `napi_enable` of an enabled one is a BUG (`net/core/dev.c`)
abbrev pub refusal : ℕ → RowEvent → Switch → Option TraceFault
refusal n Softirq switch = None
refusal n Opened Unopened = None
refusal n Opened switch = Some (OpenTwice n)
refusal n Disable Off = Some (WrongState n)
refusal n Enable On = Some (WrongState n)
refusal n event switch = wants_open n switch

abbrev pub unless_refused : {A : Type 0} → Option TraceFault → A → Result A TraceFault
unless_refused None x = Ok x
unless_refused (Some fault) x = Err fault

-- a table has the state of each device after these rows
abbrev pub Tracks : List Switch → List Row → Type 0
Tracks table rows = (place : ℕ) → place < 16 → slice_index_or table place Unopened ≡ switch_of (place + 1) rows

-- a row whose numbers are in their ranges, which is accepted after rows with these states and changes none of the states
pub record Passes (table : List Switch) (row : Row) : Type 0 where
  pub device : device_fits row.event row.device ≡ true
  pub value : value_fits row.event row.value ≡ true
  pub sets : set_by row.event ≡ None
  pub in_turn : (earlier : List Row) → Tracks table earlier → (n : ℕ) → refusal n row.event (switch_of row.device earlier) ≡ None
