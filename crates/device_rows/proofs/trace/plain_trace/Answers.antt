use Rattle.std.proofs.{Common.{◌∙◌, ◌∷◌}, lemmas.Result.{IfErr-weaker, IfOk-weaker}}
use Rattle.device_rows.proofs.RowsFacts.{with-empty}
use Rattle.device_rows.proofs.trace.plain_trace.Goals as goal

pub returns-clause-rows : goal.returns-clause-rows
returns-clause-rows g c =
    IfOk-weaker c.read_rows.result _ _ (λ trace told bytes holds.
    let (left, stands, same) = c.in_ok-add_block.ensures.same bytes holds in
    let all = told (10 ∷ left) (c.in_ok-reader.ensures.start left stands) in
    let all' = rw c.in_ok-reader.ensures.state at all in
    let same' = rw c.in_ok-rows.ensures.items at same in
    same' ∙ with-empty _ _ left c.in_ok-add_block.ensures.so_far.few ∙ all') c.read_rows.ensures.rows

pub returns-clause-fault : goal.returns-clause-fault
returns-clause-fault g c =
    IfErr-weaker c.read_rows.result _ _ (λ fault told bytes holds.
    let (left, stands, same) = c.in_ok-add_block.ensures.same bytes holds in
    let all = told (10 ∷ left) (c.in_ok-reader.ensures.start left stands) in
    let all' = rw c.in_ok-reader.ensures.state at all in
    let same' = rw c.in_ok-rows.ensures.items at same in
    rw (same' ∙ with-empty _ _ left c.in_ok-add_block.ensures.so_far.few) all') c.read_rows.ensures.fault
