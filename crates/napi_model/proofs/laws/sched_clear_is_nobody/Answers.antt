use Rattle.napi_model.proofs.Owners.{sound_after}
use Rattle.napi_model.proofs.laws.sched_clear_is_nobody.Goals as goal

pub returns-clause-after : goal.returns-clause-after
returns-clause-after c = sound_after
