use Rattle.{std.{proofs.Common.vec_items, specs.List.All}, poll_engine.specs.Opens.IsStation}
use Rattle.poll_tests.proofs.counts.stations_of.Given as goal

abbrev pub invariant-loop-index : goal.invariant-loop-index
invariant-loop-index l = All IsStation (vec_items l.stations)
