-- The rows of one device in a trace: filters over the rows, which don't depend on polls.
use Rattle.{poll_engine.specs.declared.acts.Act.Act, device_rows.specs.{declared.row.Row.Row, declared.event.RowEvent.RowEvent}}
use Rattle.std.specs.List.{find}
use Rattle.std.specs.Prelude.{is_some, ℕ, ◌+◌, ◌==◌, ◌&&◌, Bool, true, false, not, List, [], ◌∷◌, Option, Some, None, filter, length}
use Rattle.{std.specs.Prelude.{slice_get, take}, device_bench.specs.Transmit.{TransmitView, after_finish, after_tx, opened_transmit}}
use Rattle.device_rows.specs.declared.event.RowEvent.TheVariants as event
use Rattle.poll_engine.specs.declared.acts.Act.TheVariants as act

abbrev pub is_open : RowEvent → Bool
is_open event.Opened = true
is_open _ = false

abbrev pub is_rx : RowEvent → Bool
is_rx event.Rx = true
is_rx _ = false

-- ---- the rows of a device

-- the row opens this device
abbrev pub opens : ℕ → Row → Bool
opens device row = is_open row.event && (row.device == device)

-- the row is of this device, and doesn't open it
abbrev pub is_act_of : ℕ → Row → Bool
is_act_of device row = not (is_open row.event) && (row.device == device)

-- the open rows of a trace
abbrev pub openings_of : List Row → List Row
openings_of rows = filter (λ row. is_open row.event) rows

-- the open row of a device, if it has one
abbrev pub opening_of : ℕ → List Row → Option Row
opening_of device rows = find (opens device) rows

-- the rows of a device after its open row, in order; a trace has none before it
abbrev pub script_of : ℕ → List Row → List Row
script_of device rows = filter (is_act_of device) rows

-- the rows among these that deliver a packet
abbrev pub rx_of : List Row → List Row
rx_of rows = filter (λ row. is_rx row.event) rows

-- a row of this event makes the device threaded
abbrev pub is_threaded : RowEvent → Bool
is_threaded event.Threaded = true
is_threaded _ = false

abbrev pub makes_threaded : Row → Bool
makes_threaded row = is_threaded row.event && (row.value == 1)

abbrev pub has_thread : List Row → Bool
has_thread rows = is_some (find makes_threaded rows)

-- ---- the acts of a device

-- what the device's interrupt handler does for a row; n is the number of its packet, if it has one
abbrev pub act_of : ℕ → RowEvent → ℕ → Act
act_of n event.Rx value = act.Arrive (record { number = n; bytes = value })
act_of n event.Disable value = act.Disable
act_of n event.Enable value = act.Enable
act_of n event.Threaded value = act.SetThreaded (value == 1)
act_of n _ value = act.Nothing

abbrev pub act_by : ℕ → Option Row → Act
act_by n None = act.Nothing
act_by n (Some row) = act_of n row.event row.value

-- the act of row k of a script, counted from 0; packets are numbered from 1
abbrev pub act_at : List Row → ℕ → Act
act_at rows k = act_by (length (rx_of (take k rows)) + 1) (slice_get rows k)

-- ---- its transmit side, computed from its tx and done rows

abbrev pub transmit_by : RowEvent → Row → TransmitView → TransmitView
transmit_by event.Tx row t = after_tx row.value t
transmit_by event.Finish row t = after_finish row.value row.moment t
transmit_by _ row t = t

abbrev pub transmit_after : List Row → TransmitView → TransmitView
transmit_after [] t = t
transmit_after (row ∷ rows) t = transmit_after rows (transmit_by row.event row t)

-- the transmit side of a device that was opened by this row, after these rows of its script
abbrev pub side_after : Row → List Row → TransmitView
side_after opening rows = transmit_after rows (opened_transmit opening.value opening.moment)
