use Rattle.std.proofs.{Common.{◌≡◌, ◌+◌, length, arith}, lemmas.Grind.common_steps}
use Rattle.rtrb.specs.Ring.{sent, producer_capacity}
use Rattle.place_ring.proofs.Turn.{next_place}
use Rattle.place_ring.proofs.ends.PlaceIn.publish.Goals as goal

pub invariant_of-self-clause-next : goal.invariant_of-self-clause-next
invariant_of-self-clause-next c =
    let before = c.args.self.now in
    let after = c.push_entire_slice.new.self in
    let sum : length (sent after) ≡ length (sent before.producer) + c.args.count = grind (arith, common_steps) in
    next_place
    (producer_capacity before.producer)
    (producer_capacity after)
    c.capacity.result
    (length (sent before.producer))
    (length (sent after))
    before.first
    c.args.count
    c.after-self.result
    before.next
    c.after-self.ensures
    c.capacity.ensures
    c.push_entire_slice.ensures.ring.1
    sum
