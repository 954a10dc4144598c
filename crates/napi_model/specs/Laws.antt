-- Laws of legal histories.
use Rattle.std.specs.Prelude.{◌≡◌, ℕ, Bool, true, false, nat_eq, List, [], ◌++◌}
use Rattle.napi_model.specs.declared.state.Place.{Place}
use Rattle.napi_model.specs.declared.state.{Place.TheVariants.{Nobody, Granted, Listed, ToThread, Polling, Control}, State.State}
use Rattle.napi_model.specs.{declared.event.Event.Event, History.{LegalHistory, state_after, own}}

-- a state is sound if SCHED clear implies that the place is Nobody
abbrev pub IsSound : State → Type 0
IsSound s = s.flags.sched ≡ false → s.place ≡ Nobody

-- whether caller c owns the instance, by its place
abbrev pub is_owner : ℕ → Place → Bool
is_owner c Nobody = false
is_owner c (Granted owner) = nat_eq owner c
is_owner c Listed = false
is_owner c ToThread = false
is_owner c (Polling owner) = nat_eq owner c
is_owner c (Control owner) = nat_eq owner c

abbrev pub IsOwnedBy : ℕ → Place → Type 0
IsOwnedBy c p = is_owner c p ≡ true

-- the part of a state that an owner relies on: the place, and whether the instance is busy polled
abbrev pub stand_of : State → Place × Bool
stand_of s = (s.place, s.flags.in_busy_poll)

-- the place is a Polling
abbrev pub IsPollingPlace : Place → Type 0
IsPollingPlace (Polling c) = Unit {0}
IsPollingPlace _ = ⊥

abbrev pub BusyIsPolled : State → Type 0
BusyIsPolled s = s.flags.in_busy_poll ≡ true → IsPollingPlace s.place

-- the instance is queued for its thread or polled
abbrev pub IsHandedOrPolled : Place → Type 0
IsHandedOrPolled Listed = Unit {0}
IsHandedOrPolled ToThread = Unit {0}
IsHandedOrPolled (Polling c) = Unit {0}
IsHandedOrPolled _ = ⊥

abbrev pub ThreadsIsHanded : State → Type 0
ThreadsIsHanded s = s.flags.sched_threaded ≡ true → IsHandedOrPolled s.place

-- the instance is disabled, and k is the controller
abbrev pub IsControlled : ℕ → State → Type 0
IsControlled controller s = (c : ℕ) → s.place ≡ Control c → c ≡ controller

-- law: in every state that a legal history leads to, SCHED clear implies that the place is Nobody
abbrev pub SchedClearIsNobody : Type 0
SchedClearIsNobody =
    (controller : ℕ) (start : State) (h : List Event)
    → IsSound start → LegalHistory controller start h → IsSound (state_after start h)

-- law: in every state that a legal history leads to, IN_BUSY_POLL is set only if the place is a Polling
abbrev pub BusyPollIsPolling : Type 0
BusyPollIsPolling =
    (controller : ℕ) (start : State) (h : List Event)
    → IsSound start → BusyIsPolled start → LegalHistory controller start h → BusyIsPolled (state_after start h)

-- law: in every state that a legal history leads to, SCHED_THREADED is set only if the instance is queued for its thread or
-- polled
abbrev pub SchedThreadedIsHanded : Type 0
SchedThreadedIsHanded =
    (controller : ℕ) (start : State) (h : List Event)
    → IsSound start → ThreadsIsHanded start → LegalHistory controller start h → ThreadsIsHanded (state_after start h)

-- law: no operation of another caller changes an owner's place or whether it busy polls
abbrev pub OthersLeaveOwner : Type 0
OthersLeaveOwner =
    (controller caller : ℕ) (start : State) (h others : List Event)
    → IsSound start → LegalHistory controller start (h ++ others) → own caller others ≡ []
    → IsOwnedBy caller (state_after start h).place
    → stand_of (state_after start (h ++ others)) ≡ stand_of (state_after start h)

-- law: no operation of another caller makes a caller an owner or takes its ownership away
abbrev pub OthersLeaveOwnership : Type 0
OthersLeaveOwnership =
    (controller caller : ℕ) (start : State) (h others : List Event)
    → IsSound start → LegalHistory controller start (h ++ others) → own caller others ≡ []
    → is_owner caller (state_after start (h ++ others)).place ≡ is_owner caller (state_after start h).place

-- law: in every state that a legal history leads to, the number in the place Control is the controller's
abbrev pub ControlIsTheControllers : Type 0
ControlIsTheControllers =
    (controller : ℕ) (start : State) (h : List Event)
    → IsControlled controller start → LegalHistory controller start h → IsControlled controller (state_after start h)

-- law: no operation of a caller other than the controller changes the disable flag
abbrev pub OthersLeaveDisable : Type 0
OthersLeaveDisable =
    (controller : ℕ) (start : State) (h others : List Event)
    → LegalHistory controller start (h ++ others) → own controller others ≡ []
    → (state_after start (h ++ others)).flags.disable ≡ (state_after start h).flags.disable

-- law: the own list of two concatenated histories is the concatenation of their own lists
abbrev pub OwnOfJoined : Type 0
OwnOfJoined = (caller : ℕ) (g h : List Event) → own caller (g ++ h) ≡ own caller g ++ own caller h
