use Rattle.std.proofs.lemmas.List.{take_rest}
use Rattle.std.proofs.Common.{◌≡◌, ◌<◌, length, true, slice_index_or, rules, arith}
use Rattle.{std.specs.Char.is_ascii_digit, device_rows.proofs.PlainFacts.{digits-more, number-ends, number-more}}
use Rattle.device_rows.proofs.plain.twenty_digits.Goals as goal

pub returns : goal.returns
returns c =
    let digit : is_ascii_digit (slice_index_or c.args.text.now 19 0) ≡ true = search rules in
    let below : 20 < length c.args.text.now = search rules in
    let ends : slice_index_or c.args.text.now 20 0 ≡ c.args.stop = search rules in
    let more = number-more c.args.text.now 19 (omega (arith, below)) digit in
    rw (take_rest c.args.text.now 21)
    (number-ends c.args.text.now 20 c.args.stop _ below (omega arith) (omega arith)
    (digits-more c.args.text.now 19 (omega (arith, below)) c.requires.digits digit)
    (omega (arith, more, c.from.ensures, c.requires.front)) ends)
