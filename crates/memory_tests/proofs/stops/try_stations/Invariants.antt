use Rattle.{std.{proofs.Common.vec_items, specs.List.All}, poll_engine.specs.Opens.IsStation}
use Rattle.memory_tests.proofs.stops.try_stations.Given as goal

abbrev pub invariant-loop-index : goal.invariant-loop-index
invariant-loop-index l = All IsStation (vec_items l.stations)
