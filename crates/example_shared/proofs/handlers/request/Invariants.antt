use Rattle.napi_calls.specs.Instance.{IsSeatOf}
use Rattle.example_shared.proofs.handlers.request.Given as goal

abbrev pub invariant-loop : goal.invariant-loop
invariant-loop g l = IsSeatOf l.napi l.caller.pass
