use Rattle.napi_calls.specs.Instance.{IsSeatOf}
use Rattle.benches.proofs.typed.complete.Given as goal

abbrev pub invariant-loop : goal.invariant-loop
invariant-loop l = IsSeatOf l.napi l.polling.pass
