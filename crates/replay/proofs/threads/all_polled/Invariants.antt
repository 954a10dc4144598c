use Rattle.std.{proofs.Common.{◌≡◌, take}, specs.Prelude.map}
use Rattle.replay.specs.ThreadsStations.{polled_of}
use Rattle.replay.proofs.threads.all_polled.Given as goal

abbrev pub invariant-loop-end : goal.invariant-loop-end
invariant-loop-end l = l.all.items ≡ map polled_of (take l.end-index l.ends)
