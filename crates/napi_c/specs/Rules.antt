-- The kernel's rules for a shared instance that take several calls, each defined by the single attempts of `Handles`: attempts that
-- are repeated until no other thread interferes, the queueing of a granted instance, the end of a poll, and a driver's open and stop.
use Rattle.std.specs.Prelude.{◌≡◌, ◌≢◌, ◌==◌, if◌then◌else◌, ℕ, zero, suc, Bool, true, false, Some}
use Rattle.napi_model.specs.declared.state.{Seen.Seen}
use Rattle.c_handles.specs.declared.caller.{CallerObject.CallerObject, Controller.Controller}
use Rattle.napi_calls.specs.declared.state.{CallerState.CallerState, ControlState.ControlState}
use Rattle.c_handles.specs.{Handles.{CallerStep, ControlStep}, CallerCalls.CallerLooks}
use Rattle.c_handles.specs.CallerCalls.{CallerCompletes, CallerHands, CallerRequeues, ControlEnables, ControlMarks, ControlTakes}
use Rattle.c_handles.specs.Freeing.{is_control_off}
use Rattle.c_handles.specs.Status.{OK, TAKEN, RELEASED, AGAIN, HELD, CHANGED, NOT_ALLOWED}
use Rattle.napi_c.specs.Serial.{again_kind, next_again, stays_scheduled, NEXT_GONE, NEXT_REPOLL}
use Rattle.napi_calls.specs.declared.state.CallerState.TheVariants as caller
use Rattle.napi_calls.specs.declared.state.ControlState.TheVariants as controller

-- ---- repeated attempts

-- so many attempts lead from `a` to `b`, and each of them failed, because another thread changed the instance
unfoldable pub Fails : {A : Type 0} → (A → ℕ → A → Type 0) → ℕ → A → A → Type 0
Fails attempt zero a b = b ≡ a
Fails {A} attempt (suc count) a b = (between : A) × Fails attempt count a between × attempt between CHANGED b

-- 2^64 - 1
abbrev pub most_failures : ℕ
most_failures = 18446744073709551615

-- An attempt is repeated until one doesn't fail, and `n` is the status of the last one. Only after `most_failures` may that fail too.
pub record Repeats {A : Type 0} (attempt : A → ℕ → A → Type 0) (before : A) (n : ℕ) (after : A) : Type 0 where
  pub failures : ℕ
  pub between : A
  pub failed : Fails attempt failures before between
  pub last : attempt between n after
  pub gives_up : n ≡ CHANGED → failures ≡ most_failures

-- ---- `____napi_schedule`

-- a look at the state word shows this, and counts as no result
abbrev pub CallerLooked : CallerObject → Seen → CallerObject → Type 0
CallerLooked s seen t = CallerLooks s.state (Some seen) t.state × (t.answers ≡ s.answers)

-- The caller looks, and queues the instance: for its thread if THREADED is set, on the list otherwise. `next` says which.
pub record Queues (s : CallerObject) (next : ℕ) (t : CallerObject) : Type 0 where
  pub seen : Seen
  pub looked : CallerObject
  pub looks : CallerLooked s seen looked
  pub queues : CallerStep (CallerHands (again_kind seen.flags)) looked OK t
  pub says : next ≡ next_again seen.flags

-- a caller that was granted the instance queues it; any other is refused
abbrev pub QueuesIn : CallerState → CallerObject → ℕ → ℕ → CallerObject → Type 0
QueuesIn (caller.Granted g) s n next t = (n ≡ OK) × Queues s next t
QueuesIn other s n next t = (n ≡ NOT_ALLOWED) × (next ≡ NEXT_GONE) × (t ≡ s)

abbrev pub CallerQueues : ℕ → CallerObject → ℕ → CallerObject → Type 0
CallerQueues next s n t = QueuesIn s.state s n next t

-- ---- `__napi_poll`

-- what follows a completion that returned this status: an instance that was granted again is queued
pub record AfterComplete (said : ℕ) (s : CallerObject) (n next : ℕ) (t : CallerObject) : Type 0 where
  pub released : said ≡ RELEASED → (n ≡ OK) × (next ≡ NEXT_GONE) × (t ≡ s)
  pub again : said ≡ AGAIN → (n ≡ OK) × Queues s next t
  pub other : said ≢ RELEASED → said ≢ AGAIN → (n ≡ said) × (next ≡ NEXT_GONE) × (t ≡ s)

-- `napi_complete_done`, repeated, and what follows it
pub record CallerFinishes (s : CallerObject) (n next : ℕ) (t : CallerObject) : Type 0 where
  pub said : ℕ
  pub completed : CallerObject
  pub completes : Repeats (CallerStep CallerCompletes) s said completed
  pub ends : AfterComplete said completed n next t

-- After a full poll the caller looks. If a disable is pending it completes; a thread's poll goes on; any other puts the instance on
-- the list again.
pub record CallerEndsFull (s : CallerObject) (n next : ℕ) (t : CallerObject) : Type 0 where
  pub seen : Seen
  pub looked : CallerObject
  pub looks : CallerLooked s seen looked
  pub completed : stays_scheduled true seen.flags ≡ false → CallerFinishes looked n next t
  pub thread : stays_scheduled true seen.flags ≡ true → seen.flags.sched_threaded ≡ true
      → (n ≡ HELD) × (next ≡ NEXT_GONE) × (t ≡ looked)
  pub list : stays_scheduled true seen.flags ≡ true → seen.flags.sched_threaded ≡ false
      → (n ≡ OK) × (next ≡ NEXT_REPOLL) × CallerStep CallerRequeues looked OK t

-- a poll that returned the whole weight, and isn't a busy poll
abbrev pub is_full_poll : Bool → CallerState → Bool
is_full_poll full (caller.Polls w) = full
is_full_poll full _ = false

abbrev pub CallerEndsBy : Bool → CallerObject → ℕ → ℕ → CallerObject → Type 0
CallerEndsBy true = CallerEndsFull
CallerEndsBy false = CallerFinishes

-- the end of a poll, full or not. `next` says what a run has to know of it.
abbrev pub CallerEnds : Bool → ℕ → CallerObject → ℕ → CallerObject → Type 0
CallerEnds full next s n t = CallerEndsBy (is_full_poll full s.state) s n next t

-- ---- `napi_enable` and `napi_disable`

-- the mark of a disable, unless it is made already, and then attempts to take the instance
pub record ControlDisables (c : Controller) (n : ℕ) (d : Controller) : Type 0 where
  pub said : ℕ
  pub marked : Controller
  pub marks : ControlStep ControlMarks c said marked
  pub last : ℕ
  pub takes : Repeats (ControlStep ControlTakes) marked last d
  pub status : n ≡ (if last == TAKEN then OK else last)

-- an instance that is off stays off
abbrev pub ControlStopsBy : Bool → Controller → ℕ → Controller → Type 0
ControlStopsBy true c n d = (n ≡ OK) × (d ≡ c)
ControlStopsBy false c n d = ControlDisables c n d

abbrev pub ControlStops : Controller → ℕ → Controller → Type 0
ControlStops c n d = ControlStopsBy (is_control_off c.state) c n d

-- one step of a driver's open (`on`) or stop
abbrev pub ControlSteps : Bool → Bool → Controller → ℕ → Controller → Type 0
ControlSteps true threaded c n d = Repeats (ControlStep (ControlEnables threaded)) c n d
ControlSteps false threaded c n d = ControlStops c n d

-- the controller of an instance that is on, or off
abbrev pub IsSwitched : Bool → ControlState → Type 0
IsSwitched true (controller.On on) = Unit
IsSwitched false (controller.Off off) = Unit
IsSwitched _ _ = ⊥
