-- All callers of one instance, which one thread owns: the interrupt handler, the poller of the list, the device's thread, and the
-- controller. The variants of their states say who owns the instance. "Seat" in these names means a caller of this instance.
use Rattle.std.specs.Prelude.{◌≡◌, ◌≤◌, ℕ, Bool, true, false, [], Option, Some, None}
use Rattle.rx_ring.specs.declared.ends.RxIn.{RxIn}
use Rattle.napi_model.specs.{Step.no_flags}
use Rattle.napi_model.specs.{declared.state.{Flags.Flags, Place.{Place, TheVariants.{Nobody, Polling, Control}}, State.State}}
use Rattle.napi_word.specs.declared.table.Pass.{Pass}
use Rattle.napi_calls.specs.{Instance.IsSeatOf, declared.types.Napi.Napi, Seats.{PutsIntoRingOf, SameSeat}}
use Rattle.napi_calls.specs.declared.state.CallerState.{CallerState, TheVariants.{Rests, Granted, Polls, Busy, Gone}}
use Rattle.napi_calls.specs.declared.state.ControlState.{ControlState}
use Rattle.device_bench.specs.Receive.{ReceiveView}
use Rattle.napi_calls.specs.declared.state.ControlState.TheVariants as control

-- ---- the variants

abbrev pub has_caller : CallerState → Bool
has_caller (Rests c) = true
has_caller s = false

abbrev pub has_polling : CallerState → Bool
has_polling (Polls w) = true
has_polling s = false

abbrev pub has_busy : CallerState → Bool
has_busy (Busy b) = true
has_busy s = false

-- the caller has the poll context
abbrev pub owns : CallerState → Bool
owns (Polls w) = true
owns (Busy b) = true
owns s = false

-- the states that the poller of the list has between two calls, and those of the device's thread
abbrev pub fits_poller : CallerState → Bool
fits_poller (Rests c) = true
fits_poller (Polls w) = true
fits_poller (Busy b) = true
fits_poller s = false

abbrev pub fits_thread : CallerState → Bool
fits_thread (Rests c) = true
fits_thread (Polls w) = true
fits_thread s = false

abbrev pub control_marked : ControlState → Bool
control_marked (control.Marked c) = true
control_marked c = false

abbrev pub control_on : ControlState → Bool
control_on (control.On c) = true
control_on c = false

abbrev pub control_off : ControlState → Bool
control_off (control.Off c) = true
control_off c = false

-- ---- what they say of the instance

abbrev pub owner_place : CallerState → CallerState → ControlState → Place
owner_place poller thread (control.Off c) = Control 3
owner_place (Polls w) thread c = Polling 1
owner_place (Busy b) thread c = Polling 1
owner_place poller (Polls w) c = Polling 2
owner_place poller thread c = Nobody

-- a caller has the poll context
abbrev pub is_owned : Place → Bool
is_owned Nobody = false
is_owned p = true

-- a receive side with these callers; of its ring they say nothing
abbrev pub callers_side : CallerState → CallerState → ControlState → ReceiveView
callers_side poller thread c = record {
  napi = record {
    flags = record no_flags { disable = control_marked c; in_busy_poll = has_busy poller };
    place = owner_place poller thread c;
  };
  packets = [];
  capacity = 0;
}

-- ---- the passes

abbrev pub state_pass : CallerState → Option Pass
state_pass (Rests c) = Some c.pass
state_pass (Granted g) = Some g.pass
state_pass (Polls w) = Some w.pass
state_pass (Busy b) = Some b.pass
state_pass Gone = None

abbrev pub control_pass : ControlState → Option Pass
control_pass (control.Off c) = Some c.pass
control_pass (control.On c) = Some c.pass
control_pass (control.Marked c) = Some c.pass
control_pass control.Gone = None

-- the pass is of this instance
abbrev pub IsSeat : Napi → Option Pass → Type 0
IsSeat n (Some p) = IsSeatOf n p
IsSeat n None = ⊥

-- this end puts into the ring of the pass's instance
abbrev pub IsFed : RxIn → Option Pass → Type 0
IsFed input (Some p) = PutsIntoRingOf input p
IsFed input None = ⊥

-- the passes are of the same number of the same instance
abbrev pub Same : Option Pass → Option Pass → Type 0
Same (Some p) (Some q) = SameSeat p q
Same p q = ⊥

-- a caller of this instance, in a state that fits
pub record IsCaller (n : Napi) (input : RxIn) (fits : CallerState → Bool) (s : CallerState) : Type 0 where
  pub seat : IsSeat n (state_pass s)
  pub fed : IsFed input (state_pass s)
  pub state : fits s ≡ true

-- These are all callers of the instance, which is over the ring of this end. The interrupt handler owns nothing between two calls.
pub record AreCallers (n : Napi) (input : RxIn) (interrupt poller thread : CallerState) (c : ControlState) : Type 0 where
  pub zeroth : IsCaller n input has_caller interrupt
  pub one : IsCaller n input fits_poller poller
  pub two : IsCaller n input fits_thread thread
  pub control_seat : IsSeat n (control_pass c)
  pub control_fed : IsFed input (control_pass c)

-- there is room for collecting the callers at the end
pub record HasCallerRoom (callers many room : ℕ) : Type 0 where
  pub three : callers ≡ 3
  pub none : many ≡ 0
  pub room_is : 3 ≤ room

-- after an attempt to take the instance
abbrev pub IsTaken : Bool → CallerState → Type 0
IsTaken true s = has_polling s ≡ true
IsTaken false s = has_caller s ≡ true

abbrev pub IsBusyTaken : Bool → CallerState → Type 0
IsBusyTaken true s = has_busy s ≡ true
IsBusyTaken false s = has_caller s ≡ true
