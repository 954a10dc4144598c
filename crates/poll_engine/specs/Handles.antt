-- The instance to which a worker's handles belong.
use Rattle.std.specs.Prelude.{◌≡◌, ℕ, Bool, true, false, []}
use Rattle.napi_calls.specs.{declared.types.Caller.Caller, declared.types.Napi.Napi, Instance.IsSeatOf, Seats.{pass_number, own_list}}
use Rattle.napi_word.specs.declared.table.Pass.{Pass}
use Rattle.poll_engine.specs.{Runs.{controller_number, worker_number}, declared.worker.ControllerState.ControllerState}
use Rattle.poll_engine.specs.{declared.worker.ControllerState.TheVariants.{On, Off}, declared.worker.WorkerHandles.WorkerHandles}

abbrev pub pass_of : ControllerState → Pass
pass_of (On control) = control.pass
pass_of (Off control) = control.pass

abbrev pub is_on : ControllerState → Bool
is_on (On control) = true
is_on (Off control) = false

abbrev pub AreHandlesOf : Napi → WorkerHandles → Type 0
AreHandlesOf napi handles = IsSeatOf napi handles.caller.pass × IsSeatOf napi (pass_of handles.control)

-- the handles belong to this instance, and it is disabled
abbrev pub AreAtRest : Napi → WorkerHandles → Type 0
AreAtRest napi handles = AreHandlesOf napi handles × (is_on handles.control ≡ false)

-- the handles of the same caller and the same controller
abbrev pub AreSameHandles : WorkerHandles → WorkerHandles → Type 0
AreSameHandles a b = (pass_number b.caller.pass ≡ pass_number a.caller.pass)
    × (pass_number (pass_of b.control) ≡ pass_number (pass_of a.control))

-- a new caller with this number, which has made no call
pub record IsUnused (number : ℕ) (caller : Caller) : Type 0 where
  pub number_is : pass_number caller.pass ≡ number
  pub nothing_done : own_list caller.pass ≡ []

-- a worker's new handles on an instance with three callers: no call was made with them
pub record AreUnused (handles : WorkerHandles) : Type 0 where
  pub caller : IsUnused worker_number handles.caller
  pub control : own_list (pass_of handles.control) ≡ []
  pub number : pass_number (pass_of handles.control) ≡ controller_number
  pub off : is_on handles.control ≡ false
  pub unthreaded : handles.threaded ≡ false
