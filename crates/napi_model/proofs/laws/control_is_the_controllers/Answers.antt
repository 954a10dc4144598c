use Rattle.napi_model.proofs.Owners.{controlled_after, opens_controlled}
use Rattle.napi_model.proofs.laws.control_is_the_controllers.Goals as goal

pub returns-clause-after : goal.returns-clause-after
returns-clause-after c = controlled_after

pub returns-clause-opening : goal.returns-clause-opening
returns-clause-opening c = opens_controlled
