use Rattle.{std.proofs.Common.{Option, sym, subst}, rx_ring.specs.declared.ends.RxCtx.RxCtx}
use Rattle.napi_word.{specs.Ends.IsClosedTable, proofs.Closing.ended}
use Rattle.napi_word.proofs.table.StateTable.finish.Goals as goal

pub returns : goal.returns
returns c = λ taken g count. subst (λ (x : Option RxCtx). IsClosedTable c.args.self taken x) (sym c.pick.ensures)
    (ended c.args.self taken c.args.gathering.seat.me.0 c.args.gathering.seat.id c.args.gathering.found g count c.args.gathering.is_pass _ _
    c.take-slot.result c.close_with-closed.ensures.values.2 c.take-slot.ensures.value)
