use Rattle.benches.specs.Ready.{IsReady}
use Rattle.benches.proofs.turns.make_turns.Given as goal

abbrev pub invariant-loop : goal.invariant-loop
invariant-loop l = IsReady l.table l.pass
