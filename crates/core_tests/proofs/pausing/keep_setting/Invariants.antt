use Rattle.napi_calls.specs.Instance.{IsSeatOf}
use Rattle.core_tests.proofs.pausing.keep_setting.Given as goal

abbrev pub invariant-loop-k : goal.invariant-loop-k
invariant-loop-k l = IsSeatOf l.napi l.caller.pass
