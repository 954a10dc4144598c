use Rattle.std.proofs.Common.{◌++◌, ap, ◌∙◌}
use Rattle.napi_word.{specs.Knowledge.Knowledge, proofs.{Said.one_there, Splitting.joins, Closing.gathered_more}}
use Rattle.napi_word.proofs.table.StateTable.join.Goals as goal

pub join_seat-requires : goal.join_seat-requires
join_seat-requires c =
    let g = c.give_up-seat.ensures in
    (c.requires.table, g.table, ap (λ m. m.1) g.seat, one_there c.args.self.now, joins _ _ _ _ _ c.args.gathering.now.is_pass)

pub returns-clause-has : goal.returns-clause-has
returns-clause-has c =
    let g = c.give_up-seat.ensures in
    let j = c.join_seat.ensures in
    let xs : Knowledge = c.args.gathering.now.seat.me.0 in
    let both = ap (λ m. m.0) j.2 ∙ ap (λ (l : Knowledge). xs ++ l) (ap (λ m. m.0) g.seat) in
    λ taken old.
    gathered_more c.args.pass taken xs c.join_seat.new.seat.me.0 c.args.gathering.now.found c.give_up-seat.new.found old g.found both
