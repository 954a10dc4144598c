use Rattle.std.proofs.Common.{◌∙◌, sym}
use Rattle.device_places.proofs.PlaceFacts.{at-index}
use Rattle.machine_model.proofs.PendingFacts.{soonest-other, soonest-stays}
use Rattle.machine_model.proofs.devices.soonest_after.Goals as goal

pub returns-then-is_same : goal.returns-then-is_same
returns-then-is_same c change before is was mask =
    let a = c.args in
    let x = c.index-places-number.result in
    let here = at-index a.places.now a.number x c.requires.number (sym c.index-places-number.is) in
    soonest-stays change a.number before a.places.now a.soonest c.timer_in-own.result c.requires.number (rw here c.timer_in-own.ensures)
    (c.is_same.ensures c.if-is_same.true) is was

pub returns : goal.returns
returns c change before is was mask =
    let a = c.args in
    let x = c.index-places-number.result in
    let here = at-index a.places.now a.number x c.requires.number (sym c.index-places-number.is) in
    rw c.earlier.ensures
    (soonest-other change a.number before a.places.now a.soonest c.timer_in-own.result c.requires.number (rw here c.timer_in-own.ensures)
    (sym c.is_of.ensures ∙ c.if-is_of.false) is was)
