-- Which objects may be freed, and the status of freeing one.
use Rattle.std.specs.Prelude.{ℕ, Bool, true, false, not, is_some, if◌then◌else◌, Option, Some, None}
use Rattle.c_handles.specs.Status.{IN_USE}
use Rattle.c_handles.specs.{Runs.list_run, declared.body.Object.Object}
use Rattle.napi_calls.specs.declared.state.{CallerState.CallerState, ControlState.ControlState}
use Rattle.c_handles.specs.{Status.{OK, NOT_ALLOWED, BAD_HANDLE}}
use Rattle.napi_calls.specs.declared.state.CallerState.TheVariants as caller
use Rattle.napi_calls.specs.declared.state.ControlState.TheVariants as controller
use Rattle.c_handles.specs.declared.body.Object.TheVariants as body

abbrev pub is_resting : CallerState → Bool
is_resting (caller.Rests c) = true
is_resting _ = false

abbrev pub is_control_off : ControlState → Bool
is_control_off (controller.Off c) = true
is_control_off _ = false

-- no other object depends on it: a caller that owns nothing, the controller of a disabled instance, a list
-- without a run, a driver, a ring
abbrev pub is_freeable : Object → Bool
is_freeable (body.Caller s) = is_resting s.state
is_freeable (body.Controller c) = is_control_off c.state
is_freeable (body.List l) = not (is_some (list_run l.value))
is_freeable _ = true

abbrev pub free_status : Option Object → ℕ
free_status None = BAD_HANDLE
free_status (Some x) = if is_freeable x then OK else NOT_ALLOWED

abbrev pub abandon_status : Option Object → ℕ
abandon_status None = BAD_HANDLE
abandon_status (Some x) = OK

-- the status of moving an object to another handle, by the objects of both handles
abbrev pub move_status : Option Object → Option Object → ℕ
move_status from (Some y) = IN_USE
move_status None None = BAD_HANDLE
move_status (Some x) None = OK
