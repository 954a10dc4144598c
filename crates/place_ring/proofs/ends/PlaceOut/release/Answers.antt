use Rattle.std.proofs.{Common.{◌≡◌, ◌+◌, length, arith}, lemmas.Grind.common_steps}
use Rattle.rtrb.specs.Ring.{received, known_items, consumer_capacity}
use Rattle.place_ring.proofs.Turn.{next_place, known_left}
use Rattle.place_ring.proofs.ends.PlaceOut.release.Goals as goal

pub invariant_of-self-clause-next : goal.invariant_of-self-clause-next
invariant_of-self-clause-next c =
    let before = c.args.self.now in
    let after = c.pop_entire_slice.new.self in
    let sum : length (received after) ≡ length (received before.consumer) + c.args.count = grind (arith, common_steps) in
    next_place
    (consumer_capacity before.consumer)
    (consumer_capacity after)
    c.capacity.result
    (length (received before.consumer))
    (length (received after))
    before.first
    c.args.count
    c.after-self.result
    before.next
    c.after-self.ensures
    c.capacity.ensures
    c.pop_entire_slice.ensures.ring.1
    sum

pub returns-clause-known : goal.returns-clause-known
returns-clause-known c =
    let given = c.pop_entire_slice.new.slice in
    let n : length given ≡ c.args.count = grind (arith, common_steps) in
    known_left (known_items c.args.self.now.consumer) given (known_items c.pop_entire_slice.new.self) c.args.count c.in-Ok.ensures.ok.1 n
