use Rattle.memory_tests.proofs.rings.table_is_made.Goals as goal

pub ended-requires-clause-passes : goal.ended-requires-clause-passes
ended-requires-clause-passes c = λ k p at. (c.in-Ok.ensures.new k p at).table

pub ended-requires-in-Ok-new-clause-passes : goal.ended-requires-in-Ok-new-clause-passes
ended-requires-in-Ok-new-clause-passes c = λ k p at. (c.in-Ok-new.ensures.new k p at).table
