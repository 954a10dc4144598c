-- The numbers of the errors of a shared list.
use Rattle.{std.specs.Prelude.ℕ, poll_engine.specs.declared.list_fault.ListFault.ListFault}
use Rattle.poll_engine.specs.declared.list_fault.ListFault.TheVariants.{BadSize, OutOfMemory, NotAll}

-- the number of an error
abbrev pub list_fault_number : ListFault → ℕ
list_fault_number BadSize = 1
list_fault_number OutOfMemory = 2
list_fault_number NotAll = 3
