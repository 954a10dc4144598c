use Rattle.std.proofs.Common.{◌<◌, rules, arith}
use Rattle.device_rows.proofs.NumeralFacts.{fits}
use Rattle.device_rows.proofs.record.number_below_20.Goals as goal

pub overflow_mul-number : goal.overflow_mul-number
overflow_mul-number c =
    let f =
    fits c.loop-place.number c.loop-place.place 0 (omega (arith, c.loop-place-test.true, c.requires)) c.loop-place.invariant.small
    (omega arith) in
    omega (arith, f)

pub overflow_add-number : goal.overflow_add-number
overflow_add-number c =
    let byte : c.from.result < 256 = search rules in
    let f =
    fits c.loop-place.number c.loop-place.place c.from.result
    (omega (arith, c.loop-place-test.true, c.requires)) c.loop-place.invariant.small byte in
    omega (arith, f)
