use Rattle.{rx_ring.specs.Ends.SameIn, napi_calls.specs.Instance.IsSeatOf}
use Rattle.example_shared.proofs.handlers.receive.Given as goal

abbrev pub invariant-loop-number : goal.invariant-loop-number
invariant-loop-number g l = IsSeatOf l.napi l.caller.pass × SameIn l.fn.input l.input
