-- What contracts see of the two ends of a receive ring, and what a poll and a meeting of the ends do to them.
use Rattle.std.specs.{Prelude.{ℕ, ◌≡◌, ◌↔◌, ◌+◌, ◌≤◌, Bool, true, false, List, ◌++◌, length, take, min}, Global.Global}
use Rattle.rtrb.specs.{Shared.Names, Ring.{sent, received, known_items, known_free, producer_capacity, IsPair, SameProducer, SameConsumer}}
use Rattle.rx_ring.specs.{ReceiveRing.{ReceiveRing, IsInOrder, held_of, IsPoll, capped}, declared.{packet.Packet.Packet, ends.RxIn.RxIn}}
use Rattle.rx_ring.specs.declared.ends.{RxCtx.RxCtx, PollEnd.PollEnd}
use denote.RawPtr.{Ptr}
use mathlib.Core.List.{IsPrefix}

-- every packet put so far, oldest first
abbrev pub put_list : RxIn → List Packet
put_list input = sent input.producer

-- the capacity of the ring, in packets
abbrev pub capacity_of : RxIn → ℕ
capacity_of input = producer_capacity input.producer

-- how many free slots the end knows of
abbrev pub free_of : RxIn → ℕ
free_of input = known_free input.producer

-- the contents of a context
abbrev pub end_of : RxCtx → PollEnd
end_of ctx = ctx.end.value

-- every packet that polls returned so far
abbrev pub received_list : RxCtx → List Packet
received_list ctx = received (end_of ctx).consumer

-- the packets that the context knows to be in the ring: the next polls return them
abbrev pub known_list : RxCtx → List Packet
known_list ctx = known_items (end_of ctx).consumer

-- the number of polls, as it is counted
abbrev pub polls_of : RxCtx → ℕ
polls_of ctx = (end_of ctx).polls

-- whether the mark of `beside` is set: the context knew then of all that the ring held
unfoldable pub is_beside : RxCtx → Bool
is_beside ctx = (end_of ctx).mark

-- To which ring an end belongs. The context contains the name of its ring, so a returned context can be compared with the one
-- that was lent.

-- the two ends of one ring
abbrev pub IsOneRing : RxIn → RxCtx → Type 0
IsOneRing input ctx = IsPair input.producer (end_of ctx).consumer

-- the same end of the same ring, at two times
abbrev pub SameIn : RxIn → RxIn → Type 0
SameIn before after = SameProducer before.producer after.producer

abbrev pub SameCtx : RxCtx → RxCtx → Type 0
SameCtx before after = SameConsumer (end_of before).consumer (end_of after).consumer

-- what identifies a context's ring
abbrev pub RingName : Type 0
RingName = Ptr × Ptr × Names × Global × ℕ

abbrev pub ring_name : RxCtx → RingName
ring_name ctx =
    let consumer = (end_of ctx).consumer in
    (consumer.end.words, consumer.end.slots, consumer.end.names, consumer.end.heap, consumer.capacity)

-- law: contexts with the same name belong to the same ring, and no others do
abbrev pub NamesTellRings : Type 0
NamesTellRings = (a b : RxCtx) → (ring_name b ≡ ring_name a) ↔ SameCtx a b

-- the ring that has these ends
abbrev pub ring_at : RxIn → PollEnd → ReceiveRing
ring_at input end = record { put = put_list input; received = received end.consumer }

abbrev pub ring_of : RxIn → RxCtx → ReceiveRing
ring_of input ctx = ring_at input (end_of ctx)

-- a poll of this weight returns these packets, the next ones of the ring
pub record Gives (weight : ℕ) (before after : PollEnd) (given : List Packet) : Type 0 where
  pub ring : SameConsumer before.consumer after.consumer
  pub poll : IsPoll weight given (received before.consumer) (received after.consumer)
  pub in_turn : IsPrefix (known_items before.consumer) (given ++ known_items after.consumer)
  -- it returns at least the packets that the context knew of, up to the weight
  pub least : min weight (length (known_items before.consumer)) ≤ length given
  -- if the mark of `beside` is set, it returns exactly these
  pub exact : before.mark ≡ true → given ≡ take weight (known_items before.consumer)
  pub polls : after.polls ≡ capped (before.polls + 1)
  pub unmarked : after.mark ≡ false

abbrev pub GivesNext : ℕ → RxCtx → RxCtx → List Packet → Type 0
GivesNext weight before after given = Gives weight (end_of before) (end_of after) given

-- the ends of one ring meet: nothing is put or received, and the context knows of all that the ring holds
pub record Meeting (input : RxIn) (end : PollEnd) (input_after : RxIn) (end_after : PollEnd) : Type 0 where
  pub same_input : SameIn input input_after
  pub same_ctx : SameConsumer end.consumer end_after.consumer
  pub same_lists : ring_at input_after end_after ≡ ring_at input end
  pub order : IsInOrder (ring_at input end)
  pub known : known_items end_after.consumer ≡ held_of (ring_at input end)
  -- the other end knows of every free slot
  pub free : capacity_of input ≤ free_of input_after + length (held_of (ring_at input end))
  pub polls : end_after.polls ≡ end.polls
  pub marked : end_after.mark ≡ true

abbrev pub Meets : RxIn → RxCtx → RxIn → RxCtx → Type 0
Meets input ctx input_after ctx_after = Meeting input (end_of ctx) input_after (end_of ctx_after)
