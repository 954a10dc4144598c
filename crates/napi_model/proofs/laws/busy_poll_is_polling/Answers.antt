use Rattle.napi_model.proofs.Owners.{busy_after}
use Rattle.napi_model.proofs.laws.busy_poll_is_polling.Goals as goal

pub returns-clause-after : goal.returns-clause-after
returns-clause-after c = busy_after
