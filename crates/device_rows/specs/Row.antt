-- The events of a trace: the name of each, and the ranges of the numbers in its rows. See docs/FORMATS.md, "The trace".
use Rattle.std.specs.{Prelude.{ℕ, ◌==◌, ◌&&◌, Bool, List, Option, Some, None, codes, if◌then◌else◌, nat_le}, Str.bytes_eq}
use Rattle.device_rows.specs.declared.event.RowEvent.{RowEvent, TheVariants.{Opened, Rx, Tx}}
use Rattle.device_rows.specs.declared.event.RowEvent.TheVariants.{Finish, Softirq, Kthread, Disable, Enable, Threaded, Busy}

abbrev pub event_name : RowEvent → List ℕ
event_name Opened = codes "open"
event_name Rx = codes "rx"
event_name Tx = codes "tx"
event_name Finish = codes "done"
event_name Softirq = codes "softirq"
event_name Kthread = codes "kthread"
event_name Disable = codes "disable"
event_name Enable = codes "enable"
event_name Threaded = codes "threaded"
event_name Busy = codes "busy"

-- the event of a name, in a trace of this version: busy polling exists only in version 2
unfoldable pub event_of : ℕ → List ℕ → Option RowEvent
event_of version word =
    if bytes_eq word (event_name Opened) then Some Opened
    else if bytes_eq word (event_name Rx) then Some Rx
    else if bytes_eq word (event_name Tx) then Some Tx
    else if bytes_eq word (event_name Finish) then Some Finish
    else if bytes_eq word (event_name Softirq) then Some Softirq
    else if bytes_eq word (event_name Kthread) then Some Kthread
    else if bytes_eq word (event_name Disable) then Some Disable
    else if bytes_eq word (event_name Enable) then Some Enable
    else if bytes_eq word (event_name Threaded) then Some Threaded
    else if version == 2 && bytes_eq word (event_name Busy) then Some Busy
    else None

abbrev pub is_within : ℕ → ℕ → ℕ → Bool
is_within low high n = nat_le low n && nat_le n high

-- one of the sixteen devices
abbrev pub is_device : ℕ → Bool
is_device n = is_within 1 16 n

-- the device that a row of this event may name: one of sixteen, or none for a softirq
abbrev pub device_fits : RowEvent → ℕ → Bool
device_fits Softirq n = n == 0
device_fits _ n = is_device n

-- the value that a row of this event may have: the ring capacity of an open, the bytes of an rx or a tx, the packets of a done,
-- 0 or 1 for a threaded, the rounds of a busy, and otherwise 0
abbrev pub value_fits : RowEvent → ℕ → Bool
value_fits Opened n = is_within 1 65536 n
value_fits Rx n = is_within 1 65535 n
value_fits Tx n = is_within 1 65535 n
value_fits Finish n = nat_le n 65536
value_fits Threaded n = nat_le n 1
value_fits Busy n = is_within 1 65535 n
value_fits _ n = n == 0
