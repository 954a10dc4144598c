-- A driver's watchdog over a transmit ring (`dev_watchdog`), which a timer calls.
use Rattle.std.specs.Prelude.{ℕ, ◌-◌, ◌==◌, nat_le, Bool, ◌&&◌, if◌then◌else◌}
use Rattle.{tx_ring.specs.declared.event.TxState.TxState, napi_c.specs.{declared.watch.FqTxWatchdog.FqTxWatchdog, Serial.is_set}}

-- the ring is stopped, as it was at the check that this watchdog keeps, and no byte was completed since
abbrev pub is_unmoved : FqTxWatchdog → TxState → Bool
is_unmoved w t = is_set w.stopped && t.stopped && (w.completed == t.completed)

-- what the watchdog keeps after a check at this time
abbrev pub after_check : FqTxWatchdog → TxState → ℕ → FqTxWatchdog
after_check w t now =
    if is_unmoved w t then w
    else (record { stopped = if t.stopped then 1 else 0; completed = t.completed; since = now })

-- the ring has been stopped for this long without a completed byte; if the clock went back, no time has passed
abbrev pub is_stuck : FqTxWatchdog → TxState → ℕ → ℕ → Bool
is_stuck w t limit now = t.stopped && nat_le limit (now - (after_check w t now).since)
