-- The transmit side of a device: its queue, and the counts of its tx and done rows. It doesn't depend on polls.
use Rattle.std.specs.Prelude.{◌≡◌, ℕ, Bool, true, false, Option, Some, None}
use Rattle.dql_core.specs.{Bounds.DQL_MAX_LIMIT, Limit.new_limit}
use Rattle.device_bench.specs.{Counter.raised, declared.transmit.Transmit.Transmit, declared.transmit.TxCounts.TxCounts}
use Rattle.tx_ring.specs.{Queue.{TransmitQueue, after_done, after_send, done_fault, opening_queue, send_fault, tx_state}, Ring.ShowsQueue}
use Rattle.tx_ring.specs.declared.event.TxFault.{TxFault}

pub record TransmitView : Type 0 where
  pub queue : TransmitQueue
  -- the counts of packets sent, of packets that failed, of packets completed and of completions that failed
  pub sent : ℕ
  pub held : ℕ
  pub done : ℕ
  pub denied : ℕ
  -- whether the device had a tx or done row
  pub used : Bool

-- how long slack has to last before the limit shrinks, in milliseconds: the `hold_time` of `dql_init`, which
-- `netdev_init_one_queue` (net/core/dev.c) calls with HZ, one second
abbrev pub hold_time : ℕ
hold_time = 1000

-- an empty queue of this capacity under a limit that starts at this time
abbrev pub opened_transmit : ℕ → ℕ → TransmitView
opened_transmit capacity moment = record {
  queue = opening_queue capacity (new_limit 0 DQL_MAX_LIMIT hold_time moment);
  sent = 0;
  held = 0;
  done = 0;
  denied = 0;
  used = false;
}

-- sends a packet, unless the queue has this error; otherwise counts it as failed
abbrev pub sent_unless : Option TxFault → ℕ → TransmitView → TransmitView
sent_unless None bytes t = record t { queue = after_send t.queue bytes; sent = raised t.sent 1; used = true }
sent_unless (Some fault) bytes t = record t { held = raised t.held 1; used = true }

abbrev pub after_tx : ℕ → TransmitView → TransmitView
after_tx bytes t = sent_unless (send_fault t.queue bytes) bytes t

-- completes this many packets, unless the queue has this error; otherwise counts a failed completion
abbrev pub done_unless : Option TxFault → ℕ → ℕ → TransmitView → TransmitView
done_unless None count moment t = record t { queue = after_done t.queue count moment; done = raised t.done count; used = true }
done_unless (Some fault) count moment t = record t { denied = raised t.denied 1; used = true }

abbrev pub after_finish : ℕ → ℕ → TransmitView → TransmitView
after_finish count moment t = done_unless (done_fault t.queue count) count moment t

-- the counts that the report shows
abbrev pub tx_counts : TransmitView → TxCounts
tx_counts t = record { sent = t.sent; held = t.held; done = t.done; denied = t.denied; state = tx_state t.queue }

-- the stored side represents this one: its ring represents the queue, whose totals may exceed 32 bits
pub record ShowsTransmit (kept : Transmit) (t : TransmitView) : Type 0 where
  pub queue : ShowsQueue kept.ring t.queue
  pub sent : kept.sent ≡ t.sent
  pub held : kept.held ≡ t.held
  pub done : kept.done ≡ t.done
  pub denied : kept.denied ≡ t.denied
  pub used : kept.used ≡ t.used
