-- The status and the effect of calls on handles, by the object of the handle. A handle without an object, or with an object of
-- the wrong kind, gets BAD_HANDLE and is unchanged.
use Rattle.std.specs.Prelude.{◌≡◌, ◌⊎◌, ℕ, List, Option, Some, None}
use Rattle.napi_model.specs.{declared.state.Seen.Seen, Word.word_of}
use Rattle.{rx_ring.specs.declared.packet.Packet.Packet, c_handles.specs.declared.caller.{CallerObject.CallerObject, Controller.Controller}}
use Rattle.driver_core.specs.declared.driver.Driver.{Driver}
use Rattle.c_handles.specs.declared.{lister.ListObject.ListObject, body.Object.Object, handle.FqHandle.FqHandle}
use Rattle.napi_calls.specs.declared.state.{CallerState.CallerState, ControlState.ControlState}
use Rattle.c_handles.specs.{Answers.count_answer, Status.{OK, NOT_ALLOWED, BAD_HANDLE}}
use Rattle.c_handles.specs.CallerCalls.{CallerLooks, CallerReceives}
use Rattle.c_handles.specs.declared.body.Object.TheVariants as body

-- for an object of the wrong kind: BAD_HANDLE, and it is unchanged
abbrev pub OtherKind : Object → ℕ → Object → Type 0
OtherKind before n after = (n ≡ BAD_HANDLE) × (after ≡ before)

-- The call on the handle's object returned this status and had this effect, and the handle then has the new object.
abbrev pub OnHandle : (Object → ℕ → Object → Type 0) → Option Object → ℕ → Option Object → Type 0
OnHandle P None n after = (n ≡ BAD_HANDLE) × (after ≡ None)
OnHandle P (Some x) n None = ⊥
OnHandle P (Some x) n (Some y) = P x n y

-- ---- callers of a shared instance

-- the object is a caller with this property
abbrev pub IsCallerWith : (CallerObject → Type 0) → Object → Type 0
IsCallerWith P (body.Caller s) = P s
IsCallerWith P _ = ⊥

-- the effect if the object is a caller; any other object is of the wrong kind
abbrev pub OnCaller : (CallerObject → ℕ → Object → Type 0) → Object → ℕ → Object → Type 0
OnCaller P (body.Caller s) n after = P s n after
OnCaller P other n after = OtherKind other n after

-- a call of a caller had this effect on its state, and its status is counted
abbrev pub CallerStep : (CallerState → ℕ → CallerState → Type 0) → CallerObject → ℕ → CallerObject → Type 0
CallerStep P s n t = P s.state n t.state × (t.answers ≡ count_answer n s.answers)

abbrev pub AtCallerIn : (CallerObject → ℕ → CallerObject → Type 0) → Object → ℕ → Object → Type 0
AtCallerIn P = OnCaller (λ s n after. IsCallerWith (λ t. P s n t) after)

-- for a handle with a caller: the call returned this status, and the handle then has that caller
abbrev pub AtCaller : (CallerObject → ℕ → CallerObject → Type 0) → FqHandle → ℕ → FqHandle → Type 0
AtCaller P old n new = OnHandle (AtCallerIn P) old.held.body n new.held.body

abbrev pub CallerMakesIn : (CallerState → ℕ → CallerState → Type 0) → Object → ℕ → Object → Type 0
CallerMakesIn P = AtCallerIn (CallerStep P)

abbrev pub CallerGivesIn : ℕ → List Packet → Object → ℕ → Object → Type 0
CallerGivesIn weight given = AtCallerIn (λ s n t. CallerReceives weight given s.state n t.state × (t.answers ≡ s.answers))

-- A look shows this word. Of the two words, the first is the caller's variable before the call, and the second after it.
abbrev pub ShowsWord : ℕ → ℕ → CallerState → ℕ → CallerState → Type 0
ShowsWord before after h n k = ((n ≡ OK) × ((x : Seen) × CallerLooks h (Some x) k × (after ≡ word_of x)))
    ⊎ ((n ≡ NOT_ALLOWED) × CallerLooks h None k × (after ≡ before))

abbrev pub CallerShowsIn : ℕ → ℕ → Object → ℕ → Object → Type 0
CallerShowsIn before after = AtCallerIn (λ s n t. ShowsWord before after s.state n t.state × (t.answers ≡ s.answers))

abbrev pub CallerShows : ℕ → ℕ → FqHandle → ℕ → FqHandle → Type 0
CallerShows before after old n new = OnHandle (CallerShowsIn before after) old.held.body n new.held.body

abbrev pub CallerMakes : (CallerState → ℕ → CallerState → Type 0) → FqHandle → ℕ → FqHandle → Type 0
CallerMakes P = AtCaller (CallerStep P)

abbrev pub CallerGives : ℕ → List Packet → FqHandle → ℕ → FqHandle → Type 0
CallerGives weight given old n new = OnHandle (CallerGivesIn weight given) old.held.body n new.held.body

-- ---- controllers

-- the object is a controller with this property
abbrev pub IsControllerWith : (Controller → Type 0) → Object → Type 0
IsControllerWith P (body.Controller c) = P c
IsControllerWith P _ = ⊥

abbrev pub LeadsToController : (Controller → Type 0) → Option Object → Type 0
LeadsToController P None = ⊥
LeadsToController P (Some x) = IsControllerWith P x

-- the effect if the object is a controller; any other object is of the wrong kind
abbrev pub OnController : (Controller → ℕ → Object → Type 0) → Object → ℕ → Object → Type 0
OnController P (body.Controller c) n after = P c n after
OnController P other n after = OtherKind other n after

abbrev pub ControlDoesIn : (Controller → ℕ → Controller → Type 0) → Object → ℕ → Object → Type 0
ControlDoesIn P = OnController (λ c n after. IsControllerWith (λ d. P c n d) after)

-- for a handle with a controller: the call returned this status, and the handle then has that controller
abbrev pub ControlDoes : (Controller → ℕ → Controller → Type 0) → FqHandle → ℕ → FqHandle → Type 0
ControlDoes P old n new = OnHandle (ControlDoesIn P) old.held.body n new.held.body

-- a call of a controller had this effect on its state
abbrev pub ControlStep : (ControlState → ℕ → ControlState → Type 0) → Controller → ℕ → Controller → Type 0
ControlStep P c n d = P c.state n d.state

abbrev pub ControlMakesIn : (ControlState → ℕ → ControlState → Type 0) → Object → ℕ → Object → Type 0
ControlMakesIn P = ControlDoesIn (ControlStep P)

abbrev pub ControlMakes : (ControlState → ℕ → ControlState → Type 0) → FqHandle → ℕ → FqHandle → Type 0
ControlMakes P = ControlDoes (ControlStep P)

-- ---- lists

-- the object is a list with this property
abbrev pub IsListWith : (ListObject → Type 0) → Object → Type 0
IsListWith P (body.List l) = P l.value
IsListWith P _ = ⊥

abbrev pub LeadsToList : (ListObject → Type 0) → Option Object → Type 0
LeadsToList P None = ⊥
LeadsToList P (Some x) = IsListWith P x

-- the effect if the object is a list; any other object is of the wrong kind
abbrev pub OnList : (ListObject → ℕ → Object → Type 0) → Object → ℕ → Object → Type 0
OnList P (body.List l) n after = P l.value n after
OnList P other n after = OtherKind other n after

abbrev pub ListMakesIn : (ListObject → ℕ → ListObject → Type 0) → Object → ℕ → Object → Type 0
ListMakesIn P = OnList (λ l n after. IsListWith (λ m. P l n m) after)

-- for a handle with a list: the call returned this status, and the handle then has that list
abbrev pub ListMakes : (ListObject → ℕ → ListObject → Type 0) → FqHandle → ℕ → FqHandle → Type 0
ListMakes P old n new = OnHandle (ListMakesIn P) old.held.body n new.held.body

-- ---- drivers

-- the object is a driver with this property
abbrev pub IsDriverWith : (Driver → Type 0) → Object → Type 0
IsDriverWith P (body.Driver d) = P d.value
IsDriverWith P _ = ⊥

abbrev pub LeadsToDriver : (Driver → Type 0) → Option Object → Type 0
LeadsToDriver P None = ⊥
LeadsToDriver P (Some x) = IsDriverWith P x

-- the effect if the object is a driver; any other object is of the wrong kind
abbrev pub OnDriver : (Driver → ℕ → Object → Type 0) → Object → ℕ → Object → Type 0
OnDriver P (body.Driver d) n after = P d.value n after
OnDriver P other n after = OtherKind other n after

abbrev pub DriverMakesIn : (Driver → ℕ → Driver → Type 0) → Object → ℕ → Object → Type 0
DriverMakesIn P = OnDriver (λ d n after. IsDriverWith (λ e. P d n e) after)

-- for a handle with a driver: the call returned this status, and the handle then has that driver
abbrev pub DriverMakes : (Driver → ℕ → Driver → Type 0) → FqHandle → ℕ → FqHandle → Type 0
DriverMakes P old n new = OnHandle (DriverMakesIn P) old.held.body n new.held.body
