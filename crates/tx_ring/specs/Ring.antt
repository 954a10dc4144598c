-- How a `TxRing` represents a transmit queue.
use Rattle.std.specs.Prelude.{◌≡◌, ◌≤◌, length, take, sum}
use Rattle.{dql_core.specs.Dql.Shows, tx_ring.specs.Queue.{TransmitQueue, held_sizes}}
use Rattle.tx_ring.specs.declared.ring.TxRing.{TxRing}

-- r represents the queue t: it holds the packets that aren't complete, and its limit represents the limit of t, which counts
-- all packets
pub record ShowsQueue (r : TxRing) (t : TransmitQueue) : Type 0 where
  pub capacity : r.sizes.capacity ≡ t.capacity
  pub held : r.sizes.items ≡ held_sizes t
  pub within : t.done ≤ length t.sizes
  pub limit : Shows r.limit t.limit
  pub sent : t.limit.queued ≡ sum t.sizes
  pub complete : t.limit.completed ≡ sum (take t.done t.sizes)
  pub stopped : r.stopped ≡ t.stopped
