use Rattle.std.proofs.Common.{[], ◌∷◌}
use Rattle.napi_model.specs.declared.event.Operation.TheVariants.{Look, Hand}
use Rattle.{napi_calls.proofs.Making.more, poll_shared.proofs.TriesFacts.handed-by}
use Rattle.poll_shared.proofs.seat.hand_over.Goals as goal

pub returns-clause-made : goal.returns-clause-made
returns-clause-made c =
    let k = c.kind_for-kind.result in
    let x = c.look-seen.result in
    rw c.if-not-thread.false
    (Look x ∷ Hand k ∷ [], more (Hand k) [] c.look-seen.ensures.event c.hand-2.ensures.event, handed-by x k c.kind_for-kind.ensures)
