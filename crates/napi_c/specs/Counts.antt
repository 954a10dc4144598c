-- The counts and states of rings, in the structs for C: the size of the struct, and the same numbers.
use Rattle.rx_ring.specs.declared.packet.RxCounts.{RxCounts}
use Rattle.rx_ring.specs.declared.packet.Totals.{Totals}
use Rattle.napi_c.specs.declared.counts.FqCounts.{FqCounts}
use Rattle.napi_c.specs.declared.counts.FqTotals.{FqTotals}
use Rattle.napi_c.specs.declared.counts.FqTxShown.{FqTxShown}
use Rattle.tx_ring.specs.declared.event.TxState.{TxState}

abbrev pub counts_for_c : RxCounts → FqCounts
counts_for_c c = record { size = 32; polls = c.polls; packets = c.packets; bytes = c.bytes }

-- the counts of a ring that wasn't polled
abbrev pub no_polls : RxCounts
no_polls = record { polls = 0; packets = 0; bytes = 0 }

abbrev pub totalled : Totals → FqTotals
totalled t = record { size = 40; put = t.put; polled = t.polled; left = t.left; bytes = t.bytes }

abbrev pub tx_shown_of : TxState → FqTxShown
tx_shown_of s = record {
  size = 40;
  queued = s.queued;
  completed = s.completed;
  limit = s.limit;
  avail = s.avail;
  stopped = s.stopped;
}
