use Rattle.std.proofs.Common.{◌≡◌, ◌+◌, ◌++◌, length}
use Rattle.rtrb.specs.Ring.{received, known_items}
use Rattle.rx_ring.specs.ReceiveRing.{capped, bytes_of}
use Rattle.rx_ring.proofs.pair.count_left.Given as goal

abbrev pub invariant-loop : goal.invariant-loop
invariant-loop l = record {
  all : received l.consumer ++ known_items l.consumer ≡ received l.initial.consumer ++ known_items l.initial.consumer;
  rest : l.counter + length (known_items l.consumer) ≡ l.left;
  counted : l.bytes ≡ capped (bytes_of (received l.consumer));
}
