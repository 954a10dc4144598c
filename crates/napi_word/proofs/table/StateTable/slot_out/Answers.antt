use Rattle.std.proofs.Common.{ℕ, List, ◌∷◌, Option, Some, sym, ap, ◌∙◌}
use Rattle.atomic_table.specs.Table.{rest}
use Rattle.{rx_ring.specs.declared.ends.RxCtx.RxCtx, napi_word.proofs.Allowed.{hold_within, within}}
use Rattle.napi_word.proofs.table.StateTable.slot_out.Goals as goal

pub exchange-requires : goal.exchange-requires
exchange-requires c =
    let p = c.args.pass.now in
    let h = hold_within p.seat.me.1 (p.marked ∙ ap Some (within p.holds (sym p.right ∙ c.requires.owner) c.requires.within)) in
    (c.requires.table, (Some h.0, h.1 ∙ ap (λ (l : List (ℕ × Option RxCtx)). (0, Some h.0) ∷ l) (sym (ap rest h.1))))
