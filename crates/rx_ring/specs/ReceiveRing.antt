-- A receive ring: packets are put in at one end, and polls take them out at the other, each at most its weight
-- (`Documentation/networking/napi.rst`, the budget of a poll, and `__napi_poll` in `net/core/dev.c` of Linux 6.6).
use Rattle.std.specs.Prelude.{ℕ, ◌≡◌, ◌≤◌, ◌^◌, ◌-◌, List, ◌++◌, length, drop, map, sum, min}
use Rattle.rx_ring.specs.declared.packet.Packet.{Packet}
use Rattle.rx_ring.specs.declared.packet.{RxCounts.RxCounts, Totals.Totals}
use mathlib.Core.List.{IsPrefix}

-- the greatest capacity of a ring, in packets
abbrev pub most_rx_places : ℕ
most_rx_places = 65536

-- the greatest weight of a poll, which is the kernel's default (`include/linux/netdevice.h`)
abbrev pub NAPI_POLL_WEIGHT : ℕ
NAPI_POLL_WEIGHT = 64

pub record ReceiveRing : Type 0 where
  pub put : List Packet  -- every packet put so far, oldest first
  pub received : List Packet  -- every packet that polls gave so far, in the order in which they gave them

-- the packets received are the first ones put: each once, and in order
abbrev pub IsInOrder : ReceiveRing → Type 0
IsInOrder r = IsPrefix r.received r.put

-- the packets in the ring: put and not received
abbrev pub held_of : ReceiveRing → List Packet
held_of r = drop (length r.received) r.put

-- a poll of this weight returns these packets: at most the weight, and the packets received grow by exactly these
abbrev pub IsPoll : ℕ → List Packet → List Packet → List Packet → Type 0
IsPoll weight given before after = (length given ≤ weight) × (after ≡ before ++ given)

-- a 64-bit count, which saturates
abbrev pub capped : ℕ → ℕ
capped n = min n (2 ^ 64 - 1)

-- the bytes of these packets
abbrev pub bytes_of : List Packet → ℕ
bytes_of packets = sum (map (λ (p : Packet). p.bytes) packets)

-- the counts after this many polls that returned these packets
abbrev pub counts_of : ℕ → List Packet → RxCounts
counts_of polls received = record { polls = polls; packets = capped (length received); bytes = capped (bytes_of received) }

-- the counts of a whole ring; the bytes are those of all packets put
abbrev pub totals_of : ReceiveRing → Totals
totals_of r = record {
  put = capped (length r.put);
  polled = capped (length r.received);
  left = capped (length (held_of r));
  bytes = capped (bytes_of r.put);
}
