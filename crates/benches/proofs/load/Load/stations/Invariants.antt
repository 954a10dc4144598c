use Rattle.{std.{proofs.Common.vec_items, specs.List.All}, poll_engine.specs.Opens.IsStation}
use Rattle.benches.proofs.load.Load.stations.Given as goal

abbrev pub invariant-loop-number : goal.invariant-loop-number
invariant-loop-number l = All IsStation (vec_items l.stations)
