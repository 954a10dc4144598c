use Rattle.napi_calls.proofs.Standing.{one_ring}
use Rattle.napi_calls.proofs.types.Busy.beside.Goals as goal

pub beside-requires : goal.beside-requires
beside-requires c = one_ring c.args.input.now c.args.self.now.has c.requires
