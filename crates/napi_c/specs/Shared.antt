-- A new shared instance, as its handles show it.
use Rattle.std.specs.{Prelude.{◌≡◌, true, false, List, [], None}, Arc.arc_value, List.All}
use Rattle.c_handles.specs.{Answers.no_answers, Endings.LeadsToCaller, Freeing.is_control_off, CallerCalls.RestsWith, Callers.IsResting}
use Rattle.c_handles.specs.{Handles.LeadsToController}
use Rattle.c_handles.specs.declared.{handle.FqHandle.FqHandle, caller.CallerObject.CallerObject}
use Rattle.napi_calls.specs.declared.state.ControlState.{ControlState}
use Rattle.napi_model.specs.declared.{event.Event.Event, state.State.State}
use Rattle.napi_calls.specs.{Instance.first_of_instance, Seats.{own_list, state_shown}, declared.types.Napi.Napi}
use Rattle.rx_ring.specs.declared.ends.RxCtx.{RxCtx}
use Rattle.napi_calls.specs.declared.state.ControlState.TheVariants as controller

-- the handle has no object
abbrev pub IsFree : FqHandle → Type 0
IsFree handle = handle.held.body ≡ None

abbrev pub AreFree : List FqHandle → Type 0
AreFree handles = All IsFree handles

-- the handle has a caller of this instance, which owns nothing and isn't in a call
abbrev pub LeadsToRestingCaller : Napi → FqHandle → Type 0
LeadsToRestingCaller n handle = LeadsToCaller (λ s. ((arc_value s.napi).napi ≡ n) × IsResting s.state) handle.held.body

-- the first handle has the controller of a disabled instance, and each other handle one of its callers
abbrev pub AreOfOne : FqHandle → List FqHandle → Type 0
AreOfOne control handles = (n : Napi)
    × LeadsToController (λ c. ((arc_value c.napi).napi ≡ n) × (is_control_off c.state ≡ true)) control.held.body
    × All (LeadsToRestingCaller n) handles

-- the instance was made over this poll context
abbrev pub IsInstanceOver : RxCtx → FqHandle → Type 0
IsInstanceOver ctx control = LeadsToController (λ c. first_of_instance (arc_value c.napi).napi ≡ ctx) control.held.body

-- ---- no call was made yet

-- the handle has a caller whose counts of results are 0
abbrev pub LeadsToFreshCaller : FqHandle → Type 0
LeadsToFreshCaller handle = LeadsToCaller (λ s. s.answers ≡ no_answers) handle.held.body

abbrev pub AreFresh : List FqHandle → Type 0
AreFresh handles = All LeadsToFreshCaller handles

-- a caller, or the controller, made no operation, and in the state that it knows the instance isn't threaded
pub record IsUnthreaded (operations : List Event) (seen : State) : Type 0 where
  pub nothing_made : operations ≡ []
  pub not_threaded : seen.flags.threaded ≡ false

abbrev pub LeadsToUnthreadedCaller : FqHandle → Type 0
LeadsToUnthreadedCaller handle = LeadsToCaller (λ s. RestsWith (λ p. IsUnthreaded (own_list p) (state_shown p)) s.state) handle.held.body

abbrev pub IsOffUnthreaded : ControlState → Type 0
IsOffUnthreaded (controller.Off c) = IsUnthreaded (own_list c.pass) (state_shown c.pass)
IsOffUnthreaded _ = ⊥

-- the controller and the callers made no operation on the instance yet, and it isn't threaded
abbrev pub AreUnthreaded : FqHandle → List FqHandle → Type 0
AreUnthreaded control handles = LeadsToController (λ c. IsOffUnthreaded c.state) control.held.body × All LeadsToUnthreadedCaller handles

-- a new caller of this instance: it owns nothing, and no call was made on it
pub record IsNewCaller (n : Napi) (s : CallerObject) : Type 0 where
  pub instance : (arc_value s.napi).napi ≡ n
  pub rests : IsResting s.state
  pub fresh : s.answers ≡ no_answers
  pub unthreaded : RestsWith (λ p. IsUnthreaded (own_list p) (state_shown p)) s.state

abbrev pub LeadsToNewCaller : Napi → FqHandle → Type 0
LeadsToNewCaller n handle = LeadsToCaller (IsNewCaller n) handle.held.body
