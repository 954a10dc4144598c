use Rattle.std.{proofs.Common.{◌≡◌, ℕ, ◌<◌, true, Some, slice_get, get_or}, specs.Arc.arc_value}
use Rattle.napi_calls.specs.{declared.types.Caller.Caller, Instance.IsSeatOf, Seats.{own_list, state_shown}}
use Rattle.napi_c.specs.Shared.{IsUnthreaded, LeadsToNewCaller}
use Rattle.napi_c.proofs.shared.give_callers.Given as goal

abbrev pub invariant-loop-handle : goal.invariant-loop-handle
invariant-loop-handle l = record {
  callers : (k : ℕ) (c : Caller) → slice_get l.callers.items k ≡ Some c → IsSeatOf (arc_value l.shared).napi c.pass;
  new : (k : ℕ) (c : Caller) → slice_get l.callers.items k ≡ Some c → IsUnthreaded (own_list c.pass) (state_shown c.pass);
  given : l.given ≡ true → (k : ℕ) → k < l.handle-index → (d : _) → LeadsToNewCaller (arc_value l.shared).napi (get_or l.handles k d);
}
