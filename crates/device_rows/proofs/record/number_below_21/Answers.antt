use Rattle.{std.proofs.Common.rules, device_rows.proofs.NumeralFacts.{is_numeral-push, numeral-push}}
use Rattle.device_rows.proofs.record.number_below_21.Goals as goal

pub returns-then-front-gt19 : goal.returns-then-front-gt19
returns-then-front-gt19 c = rw (is_numeral-push _ _ _ c.in_ok-last.ensures.cases) (search rules)

pub returns-in_err-number : goal.returns-in_err-number
returns-in_err-number c = rw (is_numeral-push _ _ _ c.in_ok-last.ensures.cases) (search rules)

pub returns-then-not-is_ascii_digit : goal.returns-then-not-is_ascii_digit
returns-then-not-is_ascii_digit c = rw (is_numeral-push _ _ _ c.in_ok-last.ensures.cases) (search rules)

pub returns : goal.returns
returns c = rw (is_numeral-push _ _ _ c.in_ok-last.ensures.cases, numeral-push _ _ _ c.in_ok-last.ensures.cases) (search rules)
