use Rattle.std.proofs.Common.{ap, ◌∙◌}
use Rattle.poll_engine.proofs.{OrderSteps.learns, PushCounts.emptied}
use Rattle.poll_engine.proofs.list_ends.drain.Goals as goal

pub learn_as-requires-clause-rule : goal.learn_as-requires-clause-rule
learn_as-requires-clause-rule g c = learns _ _ (ap (λ v. v.polls) c.fill.ensures.popped.2 ∙ c.requires.pass.1)

pub returns-clause-empty : goal.returns-clause-empty
returns-clause-empty g c =
    emptied _ _ _ _ _ c.learn_as.ensures.queue.1 c.fill.ensures.popped.2 c.requires.returned c.requires.few
    (rw c.fill.ensures.popped.1 at c.fill.ensures.all) c.learn_as.ensures.rule
