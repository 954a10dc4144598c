-- The transmit sides of a bench's devices, as the program stores them.
use Rattle.std.specs.Prelude.{◌≡◌, ℕ, Option, Some, None, length}
use Rattle.device_bench.specs.{Transmits.Transmits, Transmit.{ShowsTransmit, TransmitView}, declared.transmit.Transmit.Transmit}
use Rattle.device_places.specs.Places.{DeviceTable, at}

-- the stored transmit side, if there is one, represents this one
abbrev pub ShowsAt : Option Transmit → Option TransmitView → Type 0
ShowsAt None None = Unit {0}
ShowsAt (Some kept) (Some t) = ShowsTransmit kept t
ShowsAt None (Some t) = ⊥
ShowsAt (Some kept) None = ⊥

-- the stored transmit sides represent these
pub record ShowsSides (sides : DeviceTable Transmit) (all : Transmits) : Type 0 where
  pub places : length all ≡ 17
  pub each : (number : ℕ) → ShowsAt (at number sides) (at number all)
