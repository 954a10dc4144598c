use Rattle.std.proofs.Common.{◌≡◌, ◌∙◌, ◌<◌, None, false, length, rules, arith}
use Rattle.std.specs.Prelude.{is_some}
use Rattle.device_places.proofs.PlaceFacts.{at-index, none-of}
use Rattle.machine_model.proofs.PendingFacts.{opened-kept}
use Rattle.machine_model.proofs.devices.QueueTable.open.Goals as goal

pub invariant_of-self : goal.invariant_of-self
invariant_of-self c = (c.make_place.ensures.few, c.make_place.ensures.pending c.self.inside.pending c.self.invariant.1)

pub invariant_of-self-in_err-new : goal.invariant_of-self-in_err-new
invariant_of-self-in_err-new c = (c.make_place.ensures.few, c.make_place.ensures.pending c.self.inside.pending c.self.invariant.1)

pub invariant_of-self-then-is_none : goal.invariant_of-self-then-is_none
invariant_of-self-then-is_none c =
    let places = c.make_place.new.places.items in
    let size : c.len.result ≡ length places = search rules in
    let x = c.index.result.now in
    let below : c.args.number < length places = omega (arith, size, c.if-number-len.true) in
    let empty : is_some x ≡ false = search rules in
    let gone : x ≡ None = none-of x empty in
    let here = at-index places c.args.number x below (search rules) in
    opened-kept places c.args.number c.args.capacity c.in_ok-new.field-0 c.self.inside.pending
    below (here ∙ gone) c.in_ok-new.ensures c.make_place.ensures.few
    (c.make_place.ensures.pending c.self.inside.pending c.self.invariant.1)

pub invariant_of-self-else-is_none : goal.invariant_of-self-else-is_none
invariant_of-self-else-is_none c = (c.make_place.ensures.few, c.make_place.ensures.pending c.self.inside.pending c.self.invariant.1)
