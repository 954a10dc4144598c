use Rattle.napi_c.proofs.NewCallers.{unthreaded}
use Rattle.napi_c.proofs.shared.open.Goals as goal

pub invariant_of-result-in-Ok-new-clause-callers_new : goal.invariant_of-result-in-Ok-new-clause-callers_new
invariant_of-result-in-Ok-new-clause-callers_new c = λ k caller at.
    unthreaded c.in-Ok.made.0 k caller.pass (c.in-Ok.ensures.callers k caller at)

pub invariant_of-result-in-Ok-new-clause-control_new : goal.invariant_of-result-in-Ok-new-clause-control_new
invariant_of-result-in-Ok-new-clause-control_new c = unthreaded c.in-Ok.made.0 c.args.callers c.in-Ok.made.2.pass c.in-Ok.ensures.control
