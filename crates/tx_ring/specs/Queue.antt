-- A transmit queue under byte queue limits (`include/linux/netdevice.h`, Linux 6.6): packets are sent and complete in order,
-- and the limit on their bytes stops and starts the queue.
use Rattle.std.specs.Prelude.{ℕ, ◌+◌, ◌%◌, ◌^◌, Bool, false, ◌&&◌, List, [], ◌∷◌, ◌++◌, length, take, drop, sum, nat_eq, nat_lt, nat_le}
use Rattle.std.specs.Prelude.{int_lt, pos, Option, Some, None, if◌then◌else◌}
use Rattle.dql_core.specs.Bounds.{DQL_MAX_OBJECT, most_in_flight}
use Rattle.dql_core.specs.{Limit.{after_queued, after_completed, avail_of, in_flight_of}, declared.whole.Limit.Limit}
use Rattle.tx_ring.specs.declared.event.{TxEvent.{TxEvent, TheVariants.{Send, Finish}}, TxFault.{TxFault, TheVariants.{Stopped, Full}}}
use Rattle.tx_ring.specs.declared.event.{TxFault.TheVariants.{TooLarge, TooMuchInFlight, MoreThanSent}, TxState.TxState}

pub record TransmitQueue : Type 0 where
  pub capacity : ℕ  -- how many packets its ring can hold
  pub sizes : List ℕ  -- the bytes of each packet ever sent, in order
  pub done : ℕ  -- how many of these, the oldest, are complete
  pub limit : Limit  -- the limit over their bytes, in whole numbers
  pub stopped : Bool  -- whether the limit has stopped the queue

-- the most packets that a ring can hold
abbrev pub most_tx_places : ℕ
most_tx_places = 65536

-- a new queue under a new limit isn't stopped
abbrev pub opening_queue : ℕ → Limit → TransmitQueue
opening_queue capacity limit = record { capacity = capacity; sizes = []; done = 0; limit = limit; stopped = false }

-- the packets in the ring: sent and not completed
abbrev pub held_sizes : TransmitQueue → List ℕ
held_sizes t = drop t.done t.sizes

-- `avail` is negative: more bytes are in flight than the limit allows
abbrev pub is_over : Limit → Bool
is_over s = int_lt (avail_of s) (pos 0)

-- the public state of a queue; its totals have 32 bits
abbrev pub tx_state : TransmitQueue → TxState
tx_state t = record {
  queued = sum t.sizes % 2 ^ 32;
  completed = sum (take t.done t.sizes) % 2 ^ 32;
  limit = t.limit.limit;
  avail = avail_of t.limit;
  stopped = t.stopped;
}

-- a packet is sent; the queue is stopped if the bytes available are negative then (`netdev_tx_sent_queue`)
abbrev pub after_send : TransmitQueue → ℕ → TransmitQueue
after_send t bytes =
    let limit = after_queued t.limit bytes in
    record t { sizes = t.sizes ++ bytes ∷ []; limit = limit; stopped = is_over limit }

-- the bytes of the oldest packets in the ring
abbrev pub oldest_bytes : TransmitQueue → ℕ → ℕ
oldest_bytes t count = sum (take count (held_sizes t))

-- these bytes are reported to the limit; a stopped queue stays stopped if `avail` is still negative
abbrev pub after_bytes : TransmitQueue → ℕ → ℕ → ℕ → TransmitQueue
after_bytes t count bytes now =
    let limit = after_completed t.limit bytes now in
    record t { done = t.done + count; limit = limit; stopped = t.stopped && is_over limit }

-- the oldest packets complete; if they have 0 bytes, the limit isn't changed (`netdev_tx_completed_queue`)
unfoldable pub after_done : TransmitQueue → ℕ → ℕ → TransmitQueue
after_done t count now =
    if nat_eq (oldest_bytes t count) 0 then record t { done = t.done + count }
    else after_bytes t count (oldest_bytes t count) now

-- Whole runs.

-- the first reason why a packet can't be sent, if there is one
abbrev pub send_fault : TransmitQueue → ℕ → Option TxFault
send_fault t bytes =
    if t.stopped then Some Stopped
    else (if nat_le t.capacity (length (held_sizes t)) then Some Full
    else (if nat_lt DQL_MAX_OBJECT bytes then Some TooLarge
    else (if nat_lt most_in_flight (in_flight_of t.limit + bytes) then Some TooMuchInFlight else None)))

-- the reason why these packets can't complete, if there is one
abbrev pub done_fault : TransmitQueue → ℕ → Option TxFault
done_fault t count = if nat_lt (length (held_sizes t)) count then Some MoreThanSent else None

-- the reason why an event fails, if it does
abbrev pub tx_event_fault : TransmitQueue → TxEvent → Option TxFault
tx_event_fault t (Send bytes) = send_fault t bytes
tx_event_fault t (Finish count now) = done_fault t count

-- the queue after an event that succeeds
abbrev pub tx_after : TransmitQueue → TxEvent → TransmitQueue
tx_after t (Send bytes) = after_send t bytes
tx_after t (Finish count now) = after_done t count now
