use Rattle.std.proofs.Common.{sym}
use Rattle.device_places.proofs.PlaceFacts.{at-index}
use Rattle.machine_model.proofs.PendingFacts.{pending-changed}
use Rattle.machine_model.proofs.devices.pending_after.Goals as goal

pub returns : goal.returns
returns c change before is was =
    let a = c.args in
    let x = c.index-places-number.result in
    let here = at-index a.places.now a.number x c.requires.number (sym c.index-places-number.is) in
    let y = c.index-places-number-2.result in
    let again = at-index a.places.now a.number y c.requires.number (sym c.index-places-number-2.is) in
    pending-changed change a.number before a.places.now a.pending _ c.requires.number is
    (rw (here, ← c.asks.ensures) c.with_bit-asking.ensures.own, c.with_bit-asking.ensures.others)
    (rw (again, ← c.has_timer.ensures) c.with_bit-timed.ensures.own, c.with_bit-timed.ensures.others)
    (λ mask. c.soonest_after.ensures change before is was.soonest mask)
    was
