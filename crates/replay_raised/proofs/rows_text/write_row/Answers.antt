use Rattle.std.proofs.{Common.{arith, rules}, lemmas.Fmt.length-decimal-le}
use Rattle.replay_raised.proofs.rows_text.write_row.Goals as goal

pub write_digits-at-requires : goal.write_digits-at-requires
write_digits-at-requires c =
    let value = length-decimal-le 10 c.from.result (omega arith) (omega arith) (omega arith) in
    (omega arith, search rules)

pub write_event-at-requires : goal.write_event-at-requires
write_event-at-requires c =
    let value = length-decimal-le 10 c.from.result (omega arith) (omega arith) (omega arith) in
    (omega arith, search rules)

pub write_digits-at-requires-2 : goal.write_digits-at-requires-2
write_digits-at-requires-2 c =
    let value = length-decimal-le 10 c.from.result (omega arith) (omega arith) (omega arith) in
    let device = length-decimal-le 10 c.from-2.result (omega arith) (omega arith) (omega arith) in
    (omega arith, search rules)

pub write_word-at-requires-2 : goal.write_word-at-requires-2
write_word-at-requires-2 c =
    let value = length-decimal-le 10 c.from.result (omega arith) (omega arith) (omega arith) in
    let device = length-decimal-le 10 c.from-2.result (omega arith) (omega arith) (omega arith) in
    (omega arith, search rules)

pub write_digits-requires : goal.write_digits-requires
write_digits-requires c =
    let value = length-decimal-le 10 c.from.result (omega arith) (omega arith) (omega arith) in
    let device = length-decimal-le 10 c.from-2.result (omega arith) (omega arith) (omega arith) in
    let moment = length-decimal-le 20 c.args.row.now.moment (omega arith) (omega arith) (omega arith) in
    (omega arith, search rules)

pub returns-clause-start : goal.returns-clause-start
returns-clause-start c =
    let value = length-decimal-le 10 c.from.result (omega arith) (omega arith) (omega arith) in
    let device = length-decimal-le 10 c.from-2.result (omega arith) (omega arith) (omega arith) in
    let moment = length-decimal-le 20 c.args.row.now.moment (omega arith) (omega arith) (omega arith) in
    (omega arith, omega arith)
