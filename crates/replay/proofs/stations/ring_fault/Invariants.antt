use Rattle.std.{proofs.Common.{◌≡◌, None, take}, specs.List.find}
use Rattle.replay.specs.ThreadsStations.{is_small}
use Rattle.replay.proofs.stations.ring_fault.Given as goal

abbrev pub invariant-loop-station : goal.invariant-loop-station
invariant-loop-station l = find is_small (take l.station-index l.stations) ≡ None
