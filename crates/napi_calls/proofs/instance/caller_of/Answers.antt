use Rattle.napi_calls.proofs.Fresh.{new_stands}
use Rattle.napi_calls.proofs.instance.caller_of.Goals as goal

pub invariant_of-result : goal.invariant_of-result
invariant_of-result c = let q = c.requires in record { stands = new_stands c.args.pass q.4 q.3 }
