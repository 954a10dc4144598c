use Rattle.std.proofs.Common.{sym, ap}
use Rattle.driver_core.proofs.ChoreFacts.{all-below}
use Rattle.driver_core.proofs.driver.Driver.has_devices.Goals as goal

pub returns-else-count-eq64 : goal.returns-else-count-eq64
returns-else-count-eq64 c = rw (← c.len-count.ensures.len) (all-below c.args.bits c.len-count.result)
