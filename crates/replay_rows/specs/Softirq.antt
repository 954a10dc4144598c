-- The rows that are runs over the poll list.
use Rattle.std.specs.Prelude.{Bool, true, false}
use Rattle.device_rows.specs.declared.event.RowEvent.{RowEvent, TheVariants.Softirq}

abbrev pub is_softirq : RowEvent → Bool
is_softirq Softirq = true
is_softirq _ = false
