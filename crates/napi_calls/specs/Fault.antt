-- The numbers of the errors.
use Rattle.std.specs.Prelude.{ℕ, Bool, true, false, ◌||◌, nat_lt}
use Rattle.napi_calls.specs.declared.fault.NewFault.{NewFault}
use Rattle.napi_calls.specs.declared.fault.{NewFault.TheVariants.{OutOfMemory, BadCount}, CloseFault.{CloseFault, TheVariants.NotAll}}

abbrev pub new_fault_number : NewFault → ℕ
new_fault_number OutOfMemory = 1
new_fault_number BadCount = 2

abbrev pub close_fault_number : CloseFault → ℕ
close_fault_number NotAll = 1

-- an instance has 2 to 8 callers
abbrev pub is_bad_count : ℕ → Bool
is_bad_count n = nat_lt n 2 || nat_lt 8 n

-- the only error of a call with this many callers
abbrev pub new_fault : Bool → NewFault
new_fault true = BadCount
new_fault false = OutOfMemory
