use Rattle.driver_core.proofs.WorldFacts.{no-packet-waits}
use Rattle.driver_core.proofs.laws.no_packet_waits_unseen.Goals as goal

pub returns : goal.returns
returns c = no-packet-waits
