use Rattle.napi_model.proofs.Owners.{others_leave_ownership}
use Rattle.napi_model.proofs.laws.others_leave_ownership.Goals as goal

pub returns : goal.returns
returns c = others_leave_ownership
