use Rattle.{std.proofs.Common.length, device_bench.proofs.EndingFacts.EndedFrom}
use Rattle.device_bench.proofs.bench.DeviceBench.end.Given as goal

abbrev pub invariant-loop-place : goal.invariant-loop-place
invariant-loop-place g l = EndedFrom g.S.ReceiveSide.ended l.initial.devices.items l.devices.items l.ends

abbrev pub decreases-loop-place : goal.decreases-loop-place
decreases-loop-place g l = length l.devices.items
