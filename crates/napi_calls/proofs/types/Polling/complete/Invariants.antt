use Rattle.{std.specs.Prelude.{List, flat_map}, napi_model.specs.declared.event.Call.TheVariants.Complete}
use Rattle.napi_calls.specs.{Made.{Made, Lost, looks}, Packets.{HoldsOn, IsSame}}
use Rattle.napi_calls.proofs.types.Polling.complete.Given as goal

abbrev pub invariant-loop : goal.invariant-loop
invariant-loop g l = HoldsOn l.fn.self.pass l.polling.pass × IsSame l.fn.self.ctx l.polling.ctx
    × ((ts : List (Lost Complete)) × Made l.fn.self.pass (flat_map looks ts) l.polling.pass)
