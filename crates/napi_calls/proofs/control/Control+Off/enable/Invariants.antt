use Rattle.{std.specs.Prelude.{List, flat_map}, napi_model.specs.declared.event.Call.TheVariants.Enable}
use Rattle.napi_calls.specs.{Made.{Made, Lost, looks}, Packets.{HoldsOn, IsSame}}
use Rattle.napi_calls.proofs.control.Control+Off.enable.Given as goal

abbrev pub invariant-loop : goal.invariant-loop
invariant-loop g l = HoldsOn l.fn.self.pass l.control.pass × IsSame l.fn.self.state.ctx l.control.state.ctx
    × ((ts : List (Lost (Enable l.fn.threaded))) × Made l.fn.self.pass (flat_map looks ts) l.control.pass)
