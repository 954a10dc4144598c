use Rattle.napi_model.proofs.Histories.{own-append}
use Rattle.napi_model.proofs.laws.own_of_joined.Goals as goal

pub returns : goal.returns
returns c = own-append
