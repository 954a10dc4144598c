-- The rule of polling one instance: `napi_poll`, `napi_threaded_poll` and `napi_busy_loop` of net/core/dev.c.
use Rattle.std.specs.Prelude.{ℕ, zero, suc, ◌==◌, ◌+◌, nat_lt, Bool, true, false, List, [], ◌∷◌, ◌++◌, length, Option, Some, None}
use Rattle.std.specs.Prelude.{◌≡◌, if◌then◌else◌}
use Rattle.poll_runs.specs.{Plan.{Plan, ends, asks, acts, polls, ◌>>=◌}, declared.bench.BusyReport.BusyReport}
use Rattle.poll_runs.specs.declared.bench.{Next.{Next, TheVariants.{Absent, Gone, Again, Repoll}}, Once.Once}
use Rattle.napi_model.specs.declared.{state.{Flags.Flags, Kind.Kind}, event.Done.TheVariants.Held}
use Rattle.napi_model.specs.declared.event.Operation.{Operation, TheVariants.{Look, Hand, Take, Complete, BusyTake, BusyStop}}
use Rattle.napi_model.specs.Step.{no_flags}
use Rattle.napi_model.specs.declared.state.Kind.TheVariants as kind
use Rattle.napi_model.specs.declared.event.Call.TheVariants as call
use Rattle.napi_model.specs.declared.event.Done.TheVariants as done

-- ---- what an operation returns

abbrev pub flags_in : Operation → Flags
flags_in (Look x) = x.flags
flags_in _ = no_flags

abbrev pub is_taken : Operation → Bool
is_taken (Take k taken) = taken
is_taken BusyTake = true
is_taken _ = false

abbrev pub is_again : Operation → Bool
is_again (Complete done.Again) = true
is_again _ = false

-- the instance's own thread if THREADED is set, otherwise the list
abbrev pub kind_for : Flags → Kind
kind_for flags = if flags.threaded then kind.Thread else kind.List

-- how a completed poll ended: queued again if a request was missed, otherwise released
abbrev pub next_of : Option Kind → Next
next_of None = Gone
next_of (Some k) = Again k

-- the packets are those of the last poll; if there was none, the bench is unchanged
abbrev pub HasLast : {B P : Type 0} → (B → List P → Type 0) → Next → B → List P → B → Type 0
HasLast has Absent before given after = (given ≡ []) × (after ≡ before)
HasLast has next before given after = has after given

-- the outcome of one poll, and its packets
pub record Given (P : Type 0) : Type 0 where
  pub once : Once
  pub packets : List P

module _ {P : Type 0} where
  -- ---- single calls

  -- reads the flags
  abbrev pub reads_flags : Plan P Flags
  reads_flags = asks call.Look (λ o. ends (flags_in o))

  -- takes the instance from the list, or from its thread's queue
  abbrev pub takes : Kind → Plan P Bool
  takes k = asks (call.Take k) (λ o. ends (is_taken o))

  -- reads whether the instance is being disabled
  abbrev pub disabling : Plan P Bool
  disabling = asks call.Look (λ o. ends (flags_in o).disable)

  -- takes the instance to busy poll it, if it is idle
  abbrev pub busy_takes : Plan P Bool
  busy_takes = asks call.BusyTake (λ o. ends (is_taken o))

  -- an operation whose call has only one reply
  abbrev pub makes : Operation → Plan P (Unit {0})
  makes o = acts o (ends tt)

  -- takes the next packets from the ring, at most this many
  abbrev pub gives : ℕ → Plan P (List P)
  gives weight = polls weight (λ packets. ends packets)

  -- ---- how a poll ends

  -- If a request was missed, the poller queues the instance (`____napi_schedule`): for its thread, if it has one and THREADED
  -- is set, otherwise on the list.
  abbrev pub handed : Bool → Plan P Kind
  handed false = do
    _ ← makes (Hand kind.List)
    ends kind.List
  handed true = do
    flags ← reads_flags
    _ ← makes (Hand (kind_for flags))
    ends (kind_for flags)

  abbrev pub completed_by : Bool → Bool → Plan P Next
  completed_by thread false = ends Gone
  completed_by thread true = do
    k ← handed thread
    ends (Again k)

  -- a completion (`napi_complete_done`)
  abbrev pub completed : Bool → Plan P Next
  completed thread = asks call.Complete (λ o. completed_by thread (is_again o))

  -- If the work is below the weight, the driver completes. If it equals the weight, the core completes an instance that is
  -- being disabled; any other one gets a repoll, and its poller still owns it.
  abbrev pub ended : Bool → Bool → Plan P Next
  ended thread false = completed thread
  ended thread true = do
    off ← disabling
    if off then completed thread else ends Repoll

  -- one poll of an instance that its poller owns (`__napi_poll`)
  abbrev pub poll_plan : Bool → ℕ → Plan P (Given P)
  poll_plan thread weight = do
    packets ← gives weight
    next ← ended thread (length packets == weight)
    ends (record { once = record { work = length packets; next = next }; packets = packets })

  -- ---- from the list (`napi_poll`)

  -- an instance that gets a repoll goes to the list
  abbrev pub let_go : Next → Plan P (Unit {0})
  let_go Repoll = makes (Hand kind.List)
  let_go next = ends tt

  abbrev pub found : Bool → ℕ → Bool → Plan P (Given P)
  found thread weight false = ends (record { once = record { work = 0; next = Absent }; packets = [] })
  found thread weight true = do
    given ← poll_plan thread weight
    _ ← let_go given.once.next
    ends given

  -- takes the instance from the list and polls it once, if it is there
  abbrev pub poll_once_plan : Bool → ℕ → Plan P (Given P)
  poll_once_plan thread weight = do
    taken ← takes kind.List
    found thread weight taken

  -- ---- by its thread (`napi_threaded_poll`)

  -- What the thread does after a poll; the argument says whether this was the last poll that it may make, the result whether it
  -- still owns the instance. It takes an instance again that was queued for it again. After the last poll, an instance that
  -- gets a repoll goes to the list.
  abbrev pub followed : Bool → Next → Plan P Bool
  followed true next = do
    _ ← let_go next
    ends false
  followed false Repoll = ends true
  followed false (Again kind.Thread) = takes kind.Thread
  followed false next = ends false

-- the polls of a thread, and the packets of the last one
pub record ThreadPolls (P : Type 0) : Type 0 where
  pub polls : List Once
  pub packets : List P

module _ {P : Type 0} (thread : Bool) (weight : ℕ) where
  -- the rest of a thread's polling: it may make this many more polls, owns the instance or doesn't, and has made these polls
  unfoldable pub polls_on : ℕ → Bool → ThreadPolls P → Plan P (ThreadPolls P)
  polls_on left false before = ends before
  polls_on zero true before = ends before
  polls_on (suc left) true before = do
    given ← poll_plan thread weight
    held ← followed (left == 0) given.once.next
    polls_on left held (record { polls = before.polls ++ given.once ∷ []; packets = given.packets })

  -- the thread takes the instance that was queued for it, and polls it at most this many times
  abbrev pub thread_poll_plan : ℕ → Plan P (ThreadPolls P)
  thread_poll_plan most = do
    held ← takes kind.Thread
    polls_on most held (record { polls = []; packets = [] })

-- ---- busily (`napi_busy_loop` and `busy_poll_stop`)

-- nothing was polled
abbrev pub no_report : BusyReport
no_report = record { polls = 0; work = 0; held = 0; bytes = 0; next = Absent }

-- a bench without busy polling: nothing was polled, and the bench is unchanged
abbrev pub NoBusyPolls : {B : Type 0} → B → ℕ → ℕ → ℕ → BusyReport → B → Type 0
NoBusyPolls before id weight rounds report after = (report ≡ no_report) × (after ≡ before)

-- the report after one more poll
abbrev pub and_poll : {P : Type 0} → (List P → ℕ) → BusyReport → List P → BusyReport
and_poll bytes r packets = record r { polls = r.polls + 1; work = r.work + length packets; bytes = r.bytes + bytes packets }

-- the report of busy polling, and the packets of its last poll
pub record BusyPolls (P : Type 0) : Type 0 where
  pub report : BusyReport
  pub packets : List P

module _ {P : Type 0} where
  -- a round completes if its work is below the weight; under IN_BUSY_POLL the completion is held, so the poller keeps the
  -- instance
  abbrev pub round_ends : Bool → BusyReport → Plan P BusyReport
  round_ends false r = ends r
  round_ends true r = do
    _ ← makes (Complete Held)
    ends (record r { held = r.held + 1 })

  -- the poll after the stop completes if its work is below the weight, and otherwise queues the instance on the list, even if
  -- it is being disabled (`__busy_poll_stop`)
  abbrev pub left_by : Bool → Bool → Plan P Next
  left_by thread true = completed thread
  left_by thread false = do
    _ ← makes (Hand kind.List)
    ends Repoll

module _ {P : Type 0} (bytes : List P → ℕ) (thread : Bool) (weight : ℕ) where
  abbrev pub round : BusyReport → Plan P BusyReport
  round r = do
    packets ← gives weight
    round_ends (nat_lt (length packets) weight) (and_poll bytes r packets)

  -- the stop, and one more poll
  abbrev pub stopped : BusyReport → Plan P (BusyPolls P)
  stopped r = do
    _ ← makes BusyStop
    packets ← gives weight
    next ← left_by thread (nat_lt (length packets) weight)
    ends (record { report = record (and_poll bytes r packets) { next = next }; packets = packets })

  -- the rest of busy polling, with this many rounds left
  unfoldable pub rounds_on : ℕ → BusyReport → Plan P (BusyPolls P)
  rounds_on zero r = stopped r
  rounds_on (suc left) r = do
    r' ← round r
    rounds_on left r'

  abbrev pub busily_from : ℕ → Bool → Plan P (BusyPolls P)
  busily_from count false = ends (record { report = no_report; packets = [] })
  busily_from count true = rounds_on count no_report

  -- takes the instance if it is idle, polls it for this many rounds, and once more
  abbrev pub busy_poll_plan : ℕ → Plan P (BusyPolls P)
  busy_poll_plan count = do
    taken ← busy_takes
    busily_from count taken
