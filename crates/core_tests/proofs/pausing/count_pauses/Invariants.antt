use Rattle.napi_calls.specs.Instance.{IsSeatOf}
use Rattle.core_tests.proofs.pausing.count_pauses.Given as goal

abbrev pub invariant-loop : goal.invariant-loop
invariant-loop g l = IsSeatOf l.napi l.control.pass
