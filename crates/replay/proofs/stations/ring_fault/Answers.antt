use Rattle.std.proofs.Common.{◌∙◌, sym}
use Rattle.replay.proofs.StationFacts.{small-here, small-later}
use Rattle.replay.proofs.stations.ring_fault.Goals as goal

pub returns-then-is_small : goal.returns-then-is_small
returns-then-is_small c =
    rw c.packets.ensures
    (small-here c.args.stations.now c.loop-station.station-index c.station-item.result c.loop-station-test.true c.loop-station.invariant
    (sym c.station-item.is)
    (sym c.is_small.ensures ∙ c.if-is_small.true))

pub loop-station-preserved : goal.loop-station-preserved
loop-station-preserved c =
    small-later c.args.stations.now c.loop-station.station-index c.station-item.result c.loop-station-test.true c.loop-station.invariant
    (sym c.station-item.is)
    (sym c.is_small.ensures ∙ c.if-is_small.false)
