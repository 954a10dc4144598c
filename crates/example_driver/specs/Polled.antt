-- The effect of a poll from the list on a card, as equations (`napi_poll` and `napi_complete_done` of net/core/dev.c).
use Rattle.std.specs.Prelude.{◌≡◌, ◌==◌, ℕ, true, false, Bool, List, ◌++◌, length, take, if◌then◌else◌}
use Rattle.napi_model.specs.Serial.{state_of}
use Rattle.napi_model.specs.Step.{after, complete_reply, event, take_reply}
use Rattle.napi_model.specs.declared.event.Done.{Done}
use Rattle.napi_model.specs.declared.event.Done.TheVariants.{Released, Again, Held}
use Rattle.napi_model.specs.declared.event.Operation.{Operation}
use Rattle.napi_model.specs.declared.event.Operation.TheVariants as operation
use Rattle.napi_model.specs.declared.state.Kind.TheVariants as kind
use Rattle.napi_model.specs.declared.state.State.{State}
use Rattle.poll_engine.specs.Next.{Next}
use Rattle.poll_engine.specs.Next.TheVariants as next
use Rattle.poll_engine.specs.Once.{Once}
use Rattle.rx_ring.specs.Ends.{ring_of}
use Rattle.rx_ring.specs.ReceiveRing.{ReceiveRing, held_of}
use Rattle.rx_ring.specs.declared.packet.Packet.{Packet}
use Rattle.example_driver.specs.declared.card.Card.{Card}
use Rattle.example_driver.specs.declared.card.TheConstants.{CARD, POLLER}
use Rattle.example_driver.specs.declared.stated.StatedBench.{StatedBench}

-- a card as its polls see it: its instance's state, and its receive ring
pub record CardView : Type 0 where
  pub napi : State
  pub ring : ReceiveRing

abbrev pub card_view : Card → CardView
card_view card = record { napi = state_of card.napi; ring = ring_of card.input card.ctx }

-- the card after the poller's operation on its instance
abbrev pub card_operated : Operation → CardView → CardView
card_operated operation card = record card { napi = after card.napi (event POLLER operation) }

-- a poll takes the ring's next packets, as many as there are and the weight allows
abbrev pub card_given : ℕ → CardView → List Packet
card_given weight card = take weight (held_of card.ring)

abbrev pub received : ℕ → CardView → CardView
received weight card = record card { ring = record card.ring { received = card.ring.received ++ card_given weight card } }

-- a completion releases the instance; if a request was missed, the poller still owns it and queues it on the list
abbrev pub card_completed : Done → CardView → Next × CardView
card_completed Released card = (next.Gone, card_operated (operation.Complete Released) card)
card_completed Again card = (next.Again kind.List, card_operated (operation.Hand kind.List) (card_operated (operation.Complete Again) card))
card_completed Held card = (next.Repoll, card)

-- a poll that used its whole weight puts the instance back on the list; any other one completes it
abbrev pub card_ended : Bool → CardView → Next × CardView
card_ended true card = (next.Repoll, card_operated (operation.Hand kind.List) card)
card_ended false card = card_completed (complete_reply card.napi) card

abbrev pub after_take : Bool → ℕ → CardView → Once × CardView
after_take false weight card = (record { work = 0; next = next.Absent }, card)
after_take true weight card =
    let work = length (card_given weight card) in
    let end = card_ended (work == weight) (received weight (card_operated (operation.Take kind.List true) card)) in
    (record { work = work; next = end.0 }, end.1)

-- the card is taken from the list and polled once, if it is there
unfoldable pub card_polled : ℕ → CardView → Once × CardView
card_polled weight card = after_take (take_reply kind.List card.napi) weight card

-- a poll by the bench: a number other than the card's isn't on the list
abbrev pub CardPolls : StatedBench → ℕ → ℕ → Once → StatedBench → Type 0
CardPolls before id weight once after =
    (once ≡ (if id == CARD then (card_polled weight (card_view before.card)).0 else record { work = 0; next = next.Absent }))
    × (card_view after.card ≡ (if id == CARD then (card_polled weight (card_view before.card)).1 else card_view before.card))
