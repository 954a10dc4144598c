use Rattle.napi_calls.specs.Instance.{IsSeatOf}
use Rattle.benches.proofs.shared.poll_all.Given as goal

abbrev pub invariant-loop : goal.invariant-loop
invariant-loop g l = IsSeatOf l.napi l.caller.pass
