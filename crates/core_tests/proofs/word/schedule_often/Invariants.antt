use Rattle.napi_word.specs.Passes.{IsPassOf}
use Rattle.core_tests.proofs.word.schedule_often.Given as goal

abbrev pub invariant-loop : goal.invariant-loop
invariant-loop l = IsPassOf l.table l.pass
