-- The effect of a call on a caller or the controller of a shared instance, in every state, by the contracts of
-- the calls of `napi_calls`. A call that isn't allowed in the state fails, and changes nothing.
use Rattle.napi_calls.specs.Packets.{Quiet, HoldsOn, GivesBack, IsSame, PreparesQuietly, TakesFresh, TriesToGiveBack, TriesToBusyPollFresh}
use Rattle.napi_calls.specs.{Packets.{TriesToStopHolding, TriesToTakeFresh}, Calls.{Prepares, Takes, TriesToComplete, TriesToBusyPoll}}
use Rattle.napi_calls.specs.{Calls.{TriesToStop, TriesToTake, EnablesAt}, declared.types.{Polling.Polling, Busy.Busy}, Made.{Made, WasLost}}
use Rattle.{napi_model.specs.declared.{state.{Kind.Kind, Seen.Seen}, event.Operation.Operation}, rx_ring.specs.ReceiveRing.counts_of}
use Rattle.rx_ring.specs.{declared.{packet.{Packet.Packet, RxCounts.RxCounts}, ends.RxCtx.RxCtx}, Ends.{GivesNext, polls_of, received_list}}
use Rattle.std.specs.Prelude.{◌≡◌, ℕ, Bool, List, [], ◌∷◌, Option, Some, None}
use Rattle.napi_word.specs.declared.table.Pass.{Pass}
use Rattle.napi_calls.specs.declared.state.{CallerState.CallerState, ControlState.ControlState}
use Rattle.c_handles.specs.{Status.{OK, HELD}}
use Rattle.c_handles.specs.{Status.{CHANGED, NOT_ALLOWED}}
use Rattle.c_handles.specs.{Tries.{Is, try_scheduled, taken, try_completed, try_busy_taken, busy_stopped, disable_tried}}
use Rattle.napi_model.specs.declared.state.Kind.TheVariants as kind
use Rattle.napi_model.specs.declared.event.Done.TheVariants as done
use Rattle.napi_model.specs.declared.event.Call.TheVariants as call
use Rattle.napi_model.specs.declared.event.Operation.TheVariants as operation
use Rattle.napi_calls.specs.declared.state.CallerState.TheVariants as caller
use Rattle.napi_calls.specs.declared.state.ControlState.TheVariants as controller

-- ---- the state afterwards

abbrev pub RestsWith : (Pass → Type 0) → CallerState → Type 0
RestsWith P (caller.Rests c) = P c.pass
RestsWith P _ = ⊥

abbrev pub GrantedWith : (Pass → Type 0) → CallerState → Type 0
GrantedWith P (caller.Granted g) = P g.pass
GrantedWith P _ = ⊥

abbrev pub BusyWith : (Busy → Type 0) → CallerState → Type 0
BusyWith P (caller.Busy b) = P b
BusyWith P _ = ⊥

abbrev pub PollsWith : (Polling → Type 0) → CallerState → Type 0
PollsWith P (caller.Polls w) = P w
PollsWith P _ = ⊥

-- ---- the calls that each state allows

abbrev pub Refused : {A : Type 0} → A → ℕ → A → Type 0
Refused before n after = (n ≡ NOT_ALLOWED) × (after ≡ before)

abbrev pub IfRests : (Pass → ℕ → CallerState → Type 0) → CallerState → ℕ → CallerState → Type 0
IfRests P (caller.Rests c) n after = P c.pass n after
IfRests P other n after = Refused other n after

abbrev pub IfGranted : (Pass → ℕ → CallerState → Type 0) → CallerState → ℕ → CallerState → Type 0
IfGranted P (caller.Granted g) n after = P g.pass n after
IfGranted P other n after = Refused other n after

abbrev pub IfPolls : (Polling → ℕ → CallerState → Type 0) → CallerState → ℕ → CallerState → Type 0
IfPolls P (caller.Polls w) n after = P w n after
IfPolls P other n after = Refused other n after

abbrev pub IfBusy : (Busy → ℕ → CallerState → Type 0) → CallerState → ℕ → CallerState → Type 0
IfBusy P (caller.Busy b) n after = P b n after
IfBusy P other n after = Refused other n after

-- a call made these operations; its effect on the packets is that its caller delivers none
abbrev pub CallerDoes : List Operation → Pass → Pass → Type 0
CallerDoes os p q = Made p os q × Quiet p q

-- an attempt had this result, with its effect on the packets
abbrev pub CallerTries : {A : Type 0} → (Pass → A → Type 0) → (Pass → A → Type 0) → Pass → Option A → Type 0
CallerTries events packets p = Is (λ r. events p r × packets p r)

-- ---- the calls of a caller. `CallerSchedules before n after`: in the state `before` the call returns the status n, and leaves the
-- state `after`. The others are alike.

abbrev pub CallerSchedules : CallerState → ℕ → CallerState → Type 0
CallerSchedules = IfRests (λ p n after. CallerTries Prepares PreparesQuietly p (try_scheduled after n))

abbrev pub CallerHands : Kind → CallerState → ℕ → CallerState → Type 0
CallerHands k = IfGranted (λ p n after. (n ≡ OK) × RestsWith (CallerDoes (operation.Hand k ∷ []) p) after)

abbrev pub CallerTakes : Kind → CallerState → ℕ → CallerState → Type 0
CallerTakes k = IfRests (λ p n after. CallerTries (Takes k) TakesFresh p (taken after n))

abbrev pub CallerRequeues : CallerState → ℕ → CallerState → Type 0
CallerRequeues =
    IfPolls (λ w n after. (n ≡ OK) × RestsWith (λ q. Made w.pass (operation.Hand kind.List ∷ []) q × GivesBack w.pass w.ctx q) after)

-- `napi_complete_done`. It returns HELD while the instance is busy polled. If the instance is released or has to be queued
-- again, what was polled is delivered.
abbrev pub CallerCompletes : CallerState → ℕ → CallerState → Type 0
CallerCompletes (caller.Polls w) n after = Is (λ r. TriesToComplete w.pass r × TriesToGiveBack w.pass w.ctx r) (try_completed after n)
CallerCompletes (caller.Busy b) n after =
    (n ≡ HELD) × BusyWith (λ x. Made b.pass (operation.Complete done.Held ∷ []) x.pass × HoldsOn b.pass x.pass × (x.ctx ≡ b.ctx)) after
CallerCompletes other n after = Refused other n after

abbrev pub CallerBusyTakes : CallerState → ℕ → CallerState → Type 0
CallerBusyTakes = IfRests (λ p n after. CallerTries TriesToBusyPoll TriesToBusyPollFresh p (try_busy_taken after n))

abbrev pub CallerBusyStops : CallerState → ℕ → CallerState → Type 0
CallerBusyStops = IfBusy (λ b n after. Is (λ r. TriesToStop b.pass r × TriesToStopHolding b.pass b.ctx r) (busy_stopped after n))

abbrev pub CallerSetsThreaded : Bool → CallerState → ℕ → CallerState → Type 0
CallerSetsThreaded b = IfRests (λ p n after. (n ≡ OK) × RestsWith (CallerDoes (operation.SetThreaded b ∷ []) p) after)

-- a look shows this, and doesn't change the caller's state
abbrev pub CallerLooks : CallerState → Option Seen → CallerState → Type 0
CallerLooks (caller.Rests c) (Some x) after = RestsWith (CallerDoes (operation.Look x ∷ []) c.pass) after
CallerLooks (caller.Granted g) (Some x) after = GrantedWith (CallerDoes (operation.Look x ∷ []) g.pass) after
CallerLooks (caller.Polls w) (Some x) after =
    PollsWith (λ v. Made w.pass (operation.Look x ∷ []) v.pass × HoldsOn w.pass v.pass × (v.ctx ≡ w.ctx)) after
CallerLooks (caller.Busy b) (Some x) after =
    BusyWith (λ v. Made b.pass (operation.Look x ∷ []) v.pass × HoldsOn b.pass v.pass × (v.ctx ≡ b.ctx)) after
CallerLooks caller.Gone (Some x) after = ⊥
CallerLooks before None after = (before ≡ caller.Gone) × (after ≡ before)

-- ---- the counts of a ring's polls, which the owner of its poll context has

abbrev pub ctx_counts : RxCtx → RxCounts
ctx_counts ctx = counts_of (polls_of ctx) (received_list ctx)

abbrev pub caller_counts : CallerState → Option RxCounts
caller_counts (caller.Polls w) = Some (ctx_counts w.ctx)
caller_counts (caller.Busy b) = Some (ctx_counts b.ctx)
caller_counts _ = None

abbrev pub controller_counts : ControlState → Option RxCounts
controller_counts (controller.Off c) = Some (ctx_counts c.state.ctx)
controller_counts _ = None

-- ---- the controller

abbrev pub MarkedWith : (Pass → Type 0) → ControlState → Type 0
MarkedWith P (controller.Marked c) = P c.pass
MarkedWith P _ = ⊥

-- one attempt at `napi_enable`: if it succeeds, what was polled is delivered; otherwise the controller keeps it
abbrev pub EnablesIn : Pass → RxCtx → Bool → ℕ → ControlState → Type 0
EnablesIn p ctx threaded n (controller.On c) = (n ≡ OK) × EnablesAt threaded p c.pass × GivesBack p ctx c.pass
EnablesIn p ctx threaded n (controller.Off c) =
    (n ≡ CHANGED) × WasLost (call.Enable threaded) p c.pass × HoldsOn p c.pass × IsSame ctx c.state.ctx
EnablesIn p ctx threaded n _ = ⊥

abbrev pub IfOff : (Pass → RxCtx → ℕ → ControlState → Type 0) → ControlState → ℕ → ControlState → Type 0
IfOff P (controller.Off c) n after = P c.pass c.state.ctx n after
IfOff P other n after = Refused other n after

abbrev pub IfOn : (Pass → ℕ → ControlState → Type 0) → ControlState → ℕ → ControlState → Type 0
IfOn P (controller.On c) n after = P c.pass n after
IfOn P other n after = Refused other n after

abbrev pub IfMarked : (Pass → ℕ → ControlState → Type 0) → ControlState → ℕ → ControlState → Type 0
IfMarked P (controller.Marked c) n after = P c.pass n after
IfMarked P other n after = Refused other n after

abbrev pub ControlEnables : Bool → ControlState → ℕ → ControlState → Type 0
ControlEnables threaded = IfOff (λ p ctx n after. EnablesIn p ctx threaded n after)

abbrev pub ControlMarks : ControlState → ℕ → ControlState → Type 0
ControlMarks = IfOn (λ p n after. (n ≡ OK) × MarkedWith (CallerDoes (operation.MarkDisable ∷ []) p) after)

abbrev pub ControlTakes : ControlState → ℕ → ControlState → Type 0
ControlTakes = IfMarked (λ p n after. CallerTries TriesToTake TriesToTakeFresh p (disable_tried after n))

-- ---- polls

-- a poll of this weight returned these packets, or the caller doesn't poll
abbrev pub CallerReceives : ℕ → List Packet → CallerState → ℕ → CallerState → Type 0
CallerReceives weight given (caller.Polls w) n after =
    (n ≡ OK) × PollsWith (λ x. GivesNext weight w.ctx x.ctx given × (x.pass ≡ w.pass)) after
CallerReceives weight given (caller.Busy b) n after =
    (n ≡ OK) × BusyWith (λ x. GivesNext weight b.ctx x.ctx given × (x.pass ≡ b.pass)) after
CallerReceives weight given other n after = Refused other n after
