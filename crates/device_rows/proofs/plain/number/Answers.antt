use Rattle.std.proofs.lemmas.List.{take_rest}
use Rattle.std.proofs.Common.{◌≡◌, ◌+◌, ◌-◌, ◌<◌, ◌≤◌, length, true, slice_index_or, rules, arith}
use Rattle.std.specs.Char.{is_ascii_digit}
use Rattle.device_rows.proofs.{NumeralFacts.{fits, small-push}, PlainFacts.{digit-small, digits-more, number-ends, number-more}}
use Rattle.device_rows.proofs.plain.number.Goals as goal

pub overflow_mul-number : goal.overflow_mul-number
overflow_mul-number c =
    let few : c.loop-place.place < 19 = search rules in
    let f = fits c.loop-place.number c.loop-place.place 0 few c.loop-place.invariant.small (omega arith) in
    omega (arith, f)

pub overflow_add-number : goal.overflow_add-number
overflow_add-number c =
    let few : c.loop-place.place < 19 = search rules in
    let byte : c.from.result < 256 = search rules in
    let f = fits c.loop-place.number c.loop-place.place c.from.result few c.loop-place.invariant.small byte in
    omega (arith, f)

pub loop-place-preserved : goal.loop-place-preserved
loop-place-preserved c =
    let digit : is_ascii_digit (slice_index_or c.args.text.now c.loop-place.place 0) ≡ true = search rules in
    let below : c.loop-place.place < length c.args.text.now = search rules in
    let more = number-more c.args.text.now c.loop-place.place below digit in
    let byte : c.from.result ≡ slice_index_or c.args.text.now c.loop-place.place 0 - 48 = search rules in
    record {
      few = omega (arith, c.loop-place.invariant.few);
      small = small-push c.loop-place.number c.loop-place.place c.from.result c.loop-place.invariant.small
          (rw byte (digit-small (slice_index_or c.args.text.now c.loop-place.place 0) digit));
      digits = digits-more c.args.text.now c.loop-place.place below c.loop-place.invariant.digits digit;
      value = omega (arith, more, c.from.ensures, c.loop-place.invariant.value);
    }

pub returns-else-is_ascii_digit : goal.returns-else-is_ascii_digit
returns-else-is_ascii_digit c =
    let below : c.loop-place.place < length c.args.text.now = search rules in
    let some : 1 ≤ c.loop-place.place = search rules in
    let few : c.loop-place.place ≤ 20 = omega (arith, c.loop-place.invariant.few) in
    let ends : slice_index_or c.args.text.now c.loop-place.place 0 ≡ c.args.stop = search rules in
    rw (take_rest c.args.text.now (c.loop-place.place + 1))
    (number-ends c.args.text.now c.loop-place.place c.args.stop c.loop-place.number below some few c.loop-place.invariant.digits
    c.loop-place.invariant.value ends)
