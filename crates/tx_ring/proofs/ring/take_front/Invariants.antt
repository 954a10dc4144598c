use Rattle.std.proofs.Common.{◌≡◌, ◌+◌, sum, drop}
use Rattle.tx_ring.proofs.ring.take_front.Given as goal

abbrev pub invariant-loop : goal.invariant-loop
invariant-loop l = record {
  parts : l.bytes + sum l.sizes.items ≡ sum l.initial.sizes.items;
  rest : l.sizes.items ≡ drop l.counter l.initial.sizes.items;
  room : l.sizes.capacity ≡ l.initial.sizes.capacity;
}
