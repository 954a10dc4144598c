use Rattle.std.proofs.Common.{◌≡◌, ◌+◌, ◌*◌, ◌≤◌, drop}
use Rattle.rx_ring.specs.ReceiveRing.{bytes_of}
use Rattle.rx_ring.proofs.packet.bytes_in.Given as goal

abbrev pub invariant-loop-packet : goal.invariant-loop-packet
invariant-loop-packet l = record {
  counted : bytes_of l.packets ≡ l.bytes + bytes_of (drop l.packet-index l.packets);
  bound : l.bytes ≤ 4294967295 * l.packet-index;
}
