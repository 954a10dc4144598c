-- The numbers of the errors.
use Rattle.{std.specs.Prelude.ℕ, dql_core.specs.declared.event.DqlFault.{DqlFault, TheVariants.{BadBounds, TooLarge, TooMuchInFlight}}}
use Rattle.dql_core.specs.declared.event.DqlFault.TheVariants.{MoreThanQueued}

-- the number of an error
abbrev pub dql_fault_number : DqlFault → ℕ
dql_fault_number BadBounds = 1
dql_fault_number TooLarge = 2
dql_fault_number TooMuchInFlight = 3
dql_fault_number MoreThanQueued = 4
