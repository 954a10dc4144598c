-- The callers and the controller of a shared instance, as objects of C's handles.
use Rattle.{std.proofs.Props.props, napi_calls.specs.{declared.types.Napi.Napi, Instance.IsSeatOf}}
use Rattle.napi_calls.specs.declared.state.{CallerState.CallerState, ControlState.ControlState}
use Rattle.napi_calls.specs.declared.state.CallerState.TheVariants as caller
use Rattle.napi_calls.specs.declared.state.ControlState.TheVariants as controller

-- the caller belongs to the instance, or is taken out for a call
abbrev pub CallsAt : Napi → CallerState → Type 0
CallsAt n (caller.Rests c) = IsSeatOf n c.pass
CallsAt n (caller.Granted g) = IsSeatOf n g.pass
CallsAt n (caller.Polls w) = IsSeatOf n w.pass
CallsAt n (caller.Busy b) = IsSeatOf n b.pass
CallsAt n caller.Gone = Unit {0}

pub calls_prop : (n : Napi) (h : CallerState) → IsProp (CallsAt n h)
calls_prop n (caller.Rests c) = Prim.hlevel props
calls_prop n (caller.Granted g) = Prim.hlevel props
calls_prop n (caller.Polls w) = Prim.hlevel props
calls_prop n (caller.Busy b) = Prim.hlevel props
calls_prop n caller.Gone = Prim.hlevel props

-- the caller owns nothing
abbrev pub IsResting : CallerState → Type 0
IsResting (caller.Rests c) = Unit
IsResting _ = ⊥

abbrev pub IsGrantedCaller : CallerState → Type 0
IsGrantedCaller (caller.Granted g) = Unit
IsGrantedCaller _ = ⊥

abbrev pub IsPolling : CallerState → Type 0
IsPolling (caller.Polls w) = Unit
IsPolling _ = ⊥

abbrev pub IsBusy : CallerState → Type 0
IsBusy (caller.Busy b) = Unit
IsBusy _ = ⊥

-- the controller belongs to the instance, or is taken out for a call
abbrev pub ControlsAt : Napi → ControlState → Type 0
ControlsAt n (controller.Off c) = IsSeatOf n c.pass
ControlsAt n (controller.On c) = IsSeatOf n c.pass
ControlsAt n (controller.Marked c) = IsSeatOf n c.pass
ControlsAt n controller.Gone = Unit {0}

pub controls_prop : (n : Napi) (m : ControlState) → IsProp (ControlsAt n m)
controls_prop n (controller.Off c) = Prim.hlevel props
controls_prop n (controller.On c) = Prim.hlevel props
controls_prop n (controller.Marked c) = Prim.hlevel props
controls_prop n controller.Gone = Prim.hlevel props
