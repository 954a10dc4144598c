use Rattle.{std.proofs.Common.{[], ap}, napi_word.proofs.Closing.{gathered_none, gathered_more}}
use Rattle.napi_word.proofs.table.StateTable.gather.Goals as goal

pub returns-clause-has : goal.returns-clause-has
returns-clause-has c =
    let g = c.give_up-seat.ensures in
    gathered_more c.args.first [] [] c.give_up-seat.result.me.0 _ c.give_up-seat.new.found gathered_none g.found (ap (λ m. m.0) g.seat)
