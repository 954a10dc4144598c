-- The numbers of the errors.
use Rattle.{std.specs.Prelude.ℕ, rx_ring.specs.declared.fault.RingFault.{RingFault, TheVariants.{OutOfMemory, BadCapacity}}}

-- the number of an error
abbrev pub ring_fault_number : RingFault → ℕ
ring_fault_number OutOfMemory = 1
ring_fault_number BadCapacity = 2
