use Rattle.napi_calls.specs.Instance.{IsSeatOf}
use Rattle.core_tests.proofs.turns.no_packet_is_thrown_away.Given as goal

abbrev pub invariant-loop-number : goal.invariant-loop-number
invariant-loop-number g l = IsSeatOf l.napi l.caller.pass
