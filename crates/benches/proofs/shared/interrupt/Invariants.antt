use Rattle.napi_calls.specs.Instance.{IsSeatOf}
use Rattle.benches.proofs.shared.interrupt.Given as goal

abbrev pub invariant-loop-number : goal.invariant-loop-number
invariant-loop-number g l = IsSeatOf l.napi l.caller.pass
