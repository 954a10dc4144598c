use Rattle.replay.proofs.stations.station_of.Goals as goal

pub returns-clause-lawful : goal.returns-clause-lawful
returns-clause-lawful c =
    record { number = c.requires.number; capacity = rw (c.capacity.ensures, c.in_ok-device.ensures.opening) c.requires.places }
