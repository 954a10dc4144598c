-- The status of a call on a caller of a shared instance, and the caller's state after it, computed from the result of the call
-- of `napi_calls`.
use Rattle.std.specs.Prelude.{ℕ, ◌==◌, if◌then◌else◌, Option, Some, None, Result, Ok, Err}
use Rattle.napi_calls.specs.declared.types.Caller.{Caller}
use Rattle.napi_calls.specs.declared.{types.Polling.Polling, answers.{TryPrep.TryPrep, TryDone.TryDone, TryBusy.TryBusy, TryStop.TryStop}}
use Rattle.{napi_calls.specs.declared.answers.TryTake.TryTake, c_handles.specs.Status.{GRANTED, MISSED, DISABLED, CHANGED, TAKEN}}
use Rattle.c_handles.specs.{Status.{NOT_THERE, RELEASED, AGAIN, BUSY, OK}}
use Rattle.napi_calls.specs.declared.state.{CallerState.CallerState, ControlState.ControlState}
use Rattle.napi_calls.specs.declared.answers.TryPrep.TheVariants as try_prep
use Rattle.napi_calls.specs.declared.answers.TryDone.TheVariants as try_done
use Rattle.napi_calls.specs.declared.answers.TryBusy.TheVariants as try_busy
use Rattle.napi_calls.specs.declared.answers.TryStop.TheVariants as try_stop
use Rattle.napi_calls.specs.declared.answers.TryTake.TheVariants as try_take
use Rattle.napi_calls.specs.declared.state.CallerState.TheVariants as caller
use Rattle.napi_calls.specs.declared.state.ControlState.TheVariants as controller

-- there is a result, and it has this property
abbrev pub Is : {A : Type 0} → (A → Type 0) → Option A → Type 0
Is P None = ⊥
Is P (Some r) = P r

abbrev pub try_scheduled : CallerState → ℕ → Option TryPrep
try_scheduled (caller.Granted g) n = if n == GRANTED then Some (try_prep.Granted g) else None
try_scheduled (caller.Rests c) n = if n == MISSED then Some (try_prep.Missed c)
    else (if n == DISABLED then Some (try_prep.Disabled c) else (if n == CHANGED then Some (try_prep.Changed c) else None))
try_scheduled _ n = None

abbrev pub taken : CallerState → ℕ → Option (Result Polling Caller)
taken (caller.Polls w) n = if n == TAKEN then Some (Ok w) else None
taken (caller.Rests c) n = if n == NOT_THERE then Some (Err c) else None
taken _ n = None

abbrev pub try_completed : CallerState → ℕ → Option TryDone
try_completed (caller.Rests c) n = if n == RELEASED then Some (try_done.Released c) else None
try_completed (caller.Granted g) n = if n == AGAIN then Some (try_done.Again g) else None
try_completed (caller.Polls w) n = if n == CHANGED then Some (try_done.Changed w) else None
try_completed _ n = None

abbrev pub try_busy_taken : CallerState → ℕ → Option TryBusy
try_busy_taken (caller.Busy b) n = if n == TAKEN then Some (try_busy.Taken b) else None
try_busy_taken (caller.Rests c) n = if n == BUSY then Some (try_busy.Refused c) else
    (if n == CHANGED then Some (try_busy.Changed c) else None)
try_busy_taken _ n = None

abbrev pub busy_stopped : CallerState → ℕ → Option TryStop
busy_stopped (caller.Polls w) n = if n == OK then Some (try_stop.Stopped w) else None
busy_stopped (caller.Busy b) n = if n == CHANGED then Some (try_stop.Changed b) else None
busy_stopped _ n = None

abbrev pub disable_tried : ControlState → ℕ → Option TryTake
disable_tried (controller.Off c) n = if n == TAKEN then Some (try_take.Taken c) else None
disable_tried (controller.Marked c) n = if n == BUSY then Some (try_take.Busy c) else
    (if n == CHANGED then Some (try_take.Changed c) else None)
disable_tried _ n = None
