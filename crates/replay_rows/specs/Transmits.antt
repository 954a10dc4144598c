-- The transmit sides of all devices, computed from the open, tx and done rows. Polls don't affect them.
use Rattle.std.specs.Prelude.{List, [], ◌∷◌}
use Rattle.device_bench.specs.{Transmits.Transmits, Transmit.{after_finish, after_tx, opened_transmit}}
use Rattle.{device_places.specs.Places.{added, changed, empty}, device_rows.specs.declared.event.RowEvent.RowEvent}
use Rattle.device_rows.specs.{declared.event.RowEvent.TheVariants.{Opened, Tx, Finish}, declared.row.Row.Row}

-- the effect of a row, by its event
abbrev pub transmits_by : RowEvent → Row → Transmits → Transmits
transmits_by Opened row all = added row.device (opened_transmit row.value row.moment) all
transmits_by Tx row all = changed (after_tx row.value) row.device all
transmits_by Finish row all = changed (after_finish row.value row.moment) row.device all
transmits_by _ row all = all

abbrev pub after_transmit : Row → Transmits → Transmits
after_transmit row all = transmits_by row.event row all

abbrev pub after_transmits : List Row → Transmits → Transmits
after_transmits [] all = all
after_transmits (row ∷ rows) all = after_transmits rows (after_transmit row all)

abbrev pub transmits_of : List Row → Transmits
transmits_of rows = after_transmits rows empty
