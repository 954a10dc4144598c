-- Transmit rings as objects of handles, and the statuses of their calls.
use Rattle.{std.specs.Prelude.{ℕ, Option, Some, None}, dql_core.specs.Fault.dql_fault_number}
use Rattle.{tx_ring.specs.{Queue.TransmitQueue, Ring.ShowsQueue}}
use Rattle.{tx_ring.specs.declared.{event.TxFault.TxFault, ring.TxRing.TxRing}, c_handles.specs.declared.body.Object.Object}
use Rattle.c_handles.specs.{declared.handle.FqHandle.FqHandle, Status.{OK, FULL, STOPPED, MORE_THAN_SENT, OUT_OF_MEMORY, BAD_CAPACITY}}
use Rattle.dql_core.specs.declared.event.DqlFault.TheVariants as limit_fault
use Rattle.tx_ring.specs.declared.event.TxFault.TheVariants as tx_fault
use Rattle.c_handles.specs.declared.body.Object.TheVariants as body

-- the object is a transmit ring with this property
abbrev pub IsTxWith : (TxRing → Type 0) → Object → Type 0
IsTxWith P (body.Tx r) = P r
IsTxWith P _ = ⊥

abbrev pub LeadsToTx : (TxRing → Type 0) → Option Object → Type 0
LeadsToTx P None = ⊥
LeadsToTx P (Some x) = IsTxWith P x

-- the handle has a transmit ring that represents this queue
abbrev pub TxShows : FqHandle → TransmitQueue → Type 0
TxShows handle queue = LeadsToTx (λ r. ShowsQueue r queue) handle.held.body

-- the number of a transmit ring's error, or OK if there is none
abbrev pub tx_status : Option TxFault → ℕ
tx_status None = OK
tx_status (Some tx_fault.Stopped) = STOPPED
tx_status (Some tx_fault.Full) = FULL
tx_status (Some tx_fault.TooLarge) = dql_fault_number limit_fault.TooLarge
tx_status (Some tx_fault.TooMuchInFlight) = dql_fault_number limit_fault.TooMuchInFlight
tx_status (Some tx_fault.MoreThanSent) = MORE_THAN_SENT
tx_status (Some tx_fault.BadCapacity) = BAD_CAPACITY
tx_status (Some tx_fault.OutOfMemory) = OUT_OF_MEMORY
