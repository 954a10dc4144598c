use Rattle.{std.specs.Prelude.false, napi_word.specs.Passes.PassPolls, benches.specs.Ready.IsReady}
use Rattle.benches.proofs.turns.complete.Given as goal

abbrev pub invariant-loop : goal.invariant-loop
invariant-loop l = IsReady l.table l.pass × PassPolls false l.pass
