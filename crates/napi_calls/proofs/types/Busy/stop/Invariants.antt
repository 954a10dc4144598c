use Rattle.std.specs.Prelude.{◌≡◌, List, flat_map}
use Rattle.napi_model.specs.declared.event.Call.TheVariants.{BusyStop}
use Rattle.napi_calls.specs.{Made.{Made, Lost, looks}, Packets.HoldsOn}
use Rattle.napi_calls.proofs.types.Busy.stop.Given as goal

abbrev pub invariant-loop : goal.invariant-loop
invariant-loop g l = HoldsOn l.fn.self.pass l.busy.pass × (l.busy.ctx ≡ l.fn.self.ctx)
    × ((ts : List (Lost BusyStop)) × Made l.fn.self.pass (flat_map looks ts) l.busy.pass)
