use Rattle.std.proofs.Common.{◌+◌, ◌∷◌, [], sum, arith, length-append, ap, ◌∙◌, sym}
use Rattle.std.proofs.lemmas.{Grind.common_steps, List.{drop-append-le, take-append-le, Sums.sum_by_push}}
use Rattle.tx_ring.proofs.ring.TxRing.send.Goals as goal

pub returns-clause-ok : goal.returns-clause-ok
returns-clause-ok c = λ t shown.
    let limit = c.in-Ok.ensures.ok t.limit shown.limit in
    let rest = drop-append-le t.done t.sizes (c.args.bytes ∷ []) shown.within in
    let within = shown.within in
    let longer = length-append t.sizes (c.args.bytes ∷ []) in
    let held = shown.held in
    record {
      capacity = grind (arith, common_steps);
      held = grind (arith, common_steps);
      within = omega arith;
      limit = limit;
      sent = ap (λ x. x + c.args.bytes) shown.sent ∙ sym (sum_by_push (λ x. x) t.sizes c.args.bytes);
      complete = shown.complete ∙ ap sum (sym (take-append-le t.done t.sizes (c.args.bytes ∷ []) shown.within));
      stopped = c.is_over-self.ensures _ limit;
    }
