-- What the thread of a poller, and the thread of an instance, return.
use Rattle.poll_engine.specs.{declared.shared.SharedList.SharedList, Asks.IsAsked, Stops.IsStop, Trails.questions}
use Rattle.poll_engine.specs.{declared.setup.context.PollLimits.PollLimits, declared.list_in.ListIn.ListIn, declared.poller.Poller.Poller}
use Rattle.poll_engine.specs.{declared.handle.PollHandle.PollHandle, declared.list_poller.ListPoller.ListPoller}
use Rattle.poll_engine.specs.{declared.setup.signals.Waker.Waker, declared.thread_poller.ThreadPoller.ThreadPoller}
use Rattle.poll_engine.specs.{Turns.{TurnsAlone, TurnsByRun}, Serving.IsServed}
use Rattle.napi_calls.specs.{declared.kept.DropBomb.DropBomb, declared.types.Caller.Caller}
use Rattle.std.specs.Prelude.{◌≡◌, ◌⊎◌, ℕ, ◌+◌, ◌++◌, ◌∷◌, [], Bool, true, false, List, Some, None, IfSome, IsSome, vec_items}

-- the numbers by which a poller of lists and the thread of an instance identify themselves to a gate
abbrev pub poller_name : ℕ → ℕ
poller_name number = 100 + number

abbrev pub thread_name : ℕ → ℕ
thread_name number = 200 + number

module _ {R : Type 0} where
  -- The poller with this number started, which its gate allowed, and took its turns, one after the other. Each turn was a run
  -- with these limits over this list. The turns changed its handles from the first to the second.
  pub record IsPolledBy (asked : ℕ → Type 0) (limits : PollLimits) (number : ℕ) (list : SharedList R) (before after : List
      (DropBomb R PollHandle)) : Type 0 where
    pub first : ListPoller R
    pub last : ListPoller R
    pub started : asked (poller_name number)
    pub paced : first.limits ≡ limits
    pub over : first.list ≡ list
    pub from : vec_items first.bench.seats ≡ before
    -- its waker
    pub own : Waker
    pub turns : IsServed own TurnsByRun first last
    pub to : vec_items last.bench.seats ≡ after

module _ (R : Type 0) where
  -- The thread of the instance with this number started, which its gate allowed, and took its turns, one after the other. Each
  -- turn polled the instance with these limits, and the thread waited by its own waker. Instances for the list were pushed at
  -- this end. The turns changed the caller from the first to the second.
  pub record IsPolledAlone (asked : ℕ → Type 0) (limits : PollLimits) (number : ℕ) (list : ListIn R) (before after : Caller) : Type 0 where
    pub first : ThreadPoller R
    pub last : ThreadPoller R
    pub started : asked (thread_name number)
    pub paced : first.limits ≡ limits
    pub at : first.seat.value.number ≡ number
    pub waker : IsSome first.seat.value.thread
    pub over : first.list ≡ list
    pub from : first.seat.value.caller ≡ Some before
    -- its waker
    pub own : Waker
    pub turns : IsServed own TurnsAlone first last
    pub to : last.seat.value.caller ≡ Some after

-- `idle` says whether there is nothing to poll, `turns` is the relation of one turn, and `may_shut` holds for a gate that may
-- return false
module _ {R G S : Type 0} (idle : S → Bool) (turns : S → Bool → S → Type 0) (may_shut : Type 0) (answers : G → ℕ → ℕ → Bool → Type 0) where
  -- The poller started, which its gate allowed, and took its turns, one after the other, unless it had nothing to poll or its
  -- run ended early. What it polls is in the state after these turns.
  pub record IsPolled (before after : Poller R G S) : Type 0 where
    pub why : IfSome after.stop (IsStop may_shut)
    pub started : after.stop ≡ None → idle before.served ≡ false → IsAsked answers before.context.now.gate before.name
    -- it asked the gate exactly once, before its turns, unless it had nothing to poll or its run ended early
    pub once : after.stop ≡ None → idle before.served ≡ false
        → questions after.asked ≡ questions before.asked ++ (before.name, 0, before.served) ∷ []
    pub never : idle before.served ≡ true → questions after.asked ≡ questions before.asked
    pub turned : after.stop ≡ None → idle before.served ≡ false → IsServed before.waker.now turns before.served after.served
    pub kept : (after.served ≡ before.served) ⊎ IsServed before.waker.now turns before.served after.served
    pub none : idle before.served ≡ true → after.served ≡ before.served
