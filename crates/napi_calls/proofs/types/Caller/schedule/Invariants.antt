use Rattle.{std.specs.Prelude.{List, flat_map}, napi_model.specs.declared.event.Call.TheVariants.Schedule}
use Rattle.napi_calls.specs.{Made.{Made, Lost, looks}, Packets.Quiet}
use Rattle.napi_calls.proofs.types.Caller.schedule.Given as goal

abbrev pub invariant-loop : goal.invariant-loop
invariant-loop g l =
    Quiet l.fn.self.pass l.caller.pass × ((ts : List (Lost Schedule)) × Made l.fn.self.pass (flat_map looks ts) l.caller.pass)
