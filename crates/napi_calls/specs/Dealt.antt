-- What two pollers, the callers 0 and 1, received from one ring.
use Rattle.std.specs.Prelude.{◌≡◌, ℕ, ◌<◌, List, [], ◌++◌}
use Rattle.rx_ring.specs.declared.packet.Packet.{Packet}
use Rattle.napi_word.specs.{declared.{table.Pass.Pass, history.Delivery.Delivery}, Knowledge.{own_deliveries, packets_of}}
use Rattle.napi_calls.specs.Packets.{own_delivered}

-- between p and q, the caller of the pass delivered these packets
abbrev pub Delivers : Pass → List Packet → Pass → Type 0
Delivers p packets q = packets_of (own_delivered q) ≡ packets_of (own_delivered p) ++ packets

-- All packets that were put are those of some deliveries, in order, followed by those that are left in the ring. Each poller's
-- packets are those of its own deliveries, and no other caller has a delivery.
pub record IsDealt (put first second left : List Packet) : Type 0 where
  pub deliveries : List Delivery
  pub whole : put ≡ packets_of deliveries ++ left
  pub first_is : packets_of (own_deliveries 0 deliveries) ≡ first
  pub second_is : packets_of (own_deliveries 1 deliveries) ≡ second
  pub others : (c : ℕ) → 1 < c → packets_of (own_deliveries c deliveries) ≡ []
