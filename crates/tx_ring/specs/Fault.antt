-- The numbers of the errors.
use Rattle.{std.specs.Prelude.ℕ, tx_ring.specs.declared.event.TxFault.{TxFault, TheVariants.{Stopped, Full, TooLarge, TooMuchInFlight}}}
use Rattle.tx_ring.specs.declared.event.TxFault.TheVariants.{MoreThanSent, BadCapacity, OutOfMemory}

-- the number of an error
abbrev pub tx_fault_number : TxFault → ℕ
tx_fault_number Stopped = 1
tx_fault_number Full = 2
tx_fault_number TooLarge = 3
tx_fault_number TooMuchInFlight = 4
tx_fault_number MoreThanSent = 5
tx_fault_number BadCapacity = 6
tx_fault_number OutOfMemory = 7
