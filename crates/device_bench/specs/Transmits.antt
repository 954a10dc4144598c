-- The transmit sides of devices, by number, and the effect of calls on them.
use Rattle.{std.specs.Prelude.{Bool, false, Option, Some, None}, device_places.specs.Places.DeviceTable}
use Rattle.device_bench.specs.{Transmit.{TransmitView, tx_counts}, declared.transmit.TxCounts.TxCounts}
use Rattle.device_bench.specs.declared.transmit.TheConstants.TxCounts.{NONE}

abbrev pub Transmits : Type 0
Transmits = DeviceTable TransmitView

-- a call changes the transmit sides of a bench by this function
abbrev pub Changes : {B : Type 0} → (B → Transmits → Type 0) → (Transmits → Transmits) → B → B → Type 0
Changes shows change old new = (all : Transmits) → shows old all → shows new (change all)

-- a call doesn't change the transmit sides of a bench
abbrev pub KeepsTransmits : {B : Type 0} → (B → Transmits → Type 0) → B → B → Type 0
KeepsTransmits shows old new = Changes shows (λ all. all) old new

-- the counts of a transmit side; zeros if there is none
abbrev pub tx_counts_of : Option TransmitView → TxCounts
tx_counts_of None = NONE
tx_counts_of (Some t) = tx_counts t

-- whether there is a transmit side, and it had a tx or done row
abbrev pub is_used : Option TransmitView → Bool
is_used None = false
is_used (Some t) = t.used
