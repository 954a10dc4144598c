-- Why a run failed, as a number, and which error is returned if there are several.
use Rattle.poll_engine.specs.declared.fault.WorkFault.{WorkFault}
use Rattle.poll_engine.specs.declared.fault.WorkFault.TheVariants.{OutOfMemory, GateShut, SpawnFailed}
use Rattle.{std.specs.Prelude.{ℕ, Bool, true, false, Result, Err}, std.specs.declared.alloc.AllocError.AllocError}

abbrev pub number_of : WorkFault → ℕ
number_of OutOfMemory = 1
number_of GateShut = 2
number_of SpawnFailed = 3

-- The result of a run; the flag says whether a thread could not be started. Out of memory takes precedence over a thread that
-- couldn't be started, and that over the gate.
abbrev pub run_result : {A : Type 0} → Result A WorkFault → Bool → Result A WorkFault
run_result (Err OutOfMemory) refused = Err OutOfMemory
run_result came true = Err SpawnFailed
run_result came false = came

-- An allocation failed. Only the error of the allocation proves it.
pub IsWantOfMemory : Type 0
IsWantOfMemory = Unit {0}

pub wanted_by : AllocError → IsWantOfMemory
unfolding IsWantOfMemory
wanted_by error = tt
