use Rattle.napi_model.proofs.Owners.{threads_after}
use Rattle.napi_model.proofs.laws.sched_threaded_is_handed.Goals as goal

pub returns-clause-after : goal.returns-clause-after
returns-clause-after c = threads_after
