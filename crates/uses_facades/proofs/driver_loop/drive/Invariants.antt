use Rattle.std.proofs.Common.{◌≡◌, length}
use Rattle.driver_core.specs.Driver.{driver_devices}
use Rattle.uses_facades.proofs.driver_loop.drive.Given as goal

abbrev pub invariant-loop : goal.invariant-loop
invariant-loop g l = length (driver_devices l.driver) ≡ length l.cards
