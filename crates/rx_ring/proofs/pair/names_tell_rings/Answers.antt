use Rattle.rx_ring.proofs.Names.{names_tell_rings}
use Rattle.rx_ring.proofs.pair.names_tell_rings.Goals as goal

pub returns : goal.returns
returns c = names_tell_rings
