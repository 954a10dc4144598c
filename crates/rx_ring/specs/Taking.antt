-- What a poll does once it knows how many packets it takes.
use Rattle.std.specs.Prelude.{ℕ, ◌≡◌, ◌+◌, false, List, ◌++◌, take}
use Rattle.rtrb.specs.Ring.{received, known_items, SameConsumer}
use Rattle.rx_ring.specs.{ReceiveRing.{capped}, declared.packet.Packet.Packet, declared.ends.PollEnd.PollEnd}
use mathlib.Core.List.{IsPrefix}

-- a poll takes this many packets, which the context knew of, and counts itself
pub record TakesKnown (count : ℕ) (before after : PollEnd) (taken : List Packet) : Type 0 where
  pub ring : SameConsumer before.consumer after.consumer
  pub known : taken ≡ take count (known_items before.consumer)
  pub received : received after.consumer ≡ received before.consumer ++ taken
  pub in_turn : IsPrefix (known_items before.consumer) (taken ++ known_items after.consumer)
  pub polls : after.polls ≡ capped (before.polls + 1)
  pub unmarked : after.mark ≡ false
