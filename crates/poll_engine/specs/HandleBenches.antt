-- The effect of a poll on a poller's handles. (Names with "seat" are about these handles.)
use Rattle.std.specs.Prelude.{◌≡◌, ◌==◌, ◌<◌, ◌++◌, ◌∷◌, [], ℕ, length, get_or, set, position, is_some, vec_items, MatchOption, ◌≤◌}
use Rattle.std.specs.Prelude.{List, IsSome, Some, vec_capacity, vec_len}
use Rattle.poll_runs.specs.{declared.bench.Next.TheVariants.Absent, declared.bench.Once.Once}
use Rattle.poll_engine.specs.{declared.handle.PollHandle.PollHandle, declared.list_poller.HandleBench.HandleBench}
use Rattle.poll_engine.specs.{declared.list_poller.ListPoller.ListPoller, Polled.Polls, SeatKeeping.IsSameSeat, Woken.WakesThread}
use Rattle.poll_engine.specs.declared.poller.Poller.{Poller}
use Rattle.napi_calls.specs.{declared.kept.DropBomb.DropBomb, declared.types.Caller.Caller, Instance.IsSeatOf}

module _ {R : Type 0} where
  -- only the handle at this index was polled, once, with this weight and this result
  pub record IsPolledAt (before : HandleBench R) (weight : ℕ) (once : Once) (after : HandleBench R) (place : ℕ) : Type 0 where
    pub was : DropBomb R PollHandle
    pub now : DropBomb R PollHandle
    pub within : place < length (vec_items before.seats)
    pub there : get_or (vec_items before.seats) place was ≡ was
    pub same : IsSameSeat was.value now.value
    pub polls : Polls (is_some was.value.thread) weight was.value.caller once after.batch.items now.value.caller
    pub wakes : WakesThread was.value.thread once.next now.value.caller before.wakes after.wakes
    pub others : vec_items after.seats ≡ set (vec_items before.seats) place now

  -- the poller has no handle on the instance: nothing is polled
  pub record IsNowhere (before : HandleBench R) (once : Once) (after : HandleBench R) : Type 0 where
    pub work : once.work ≡ 0
    pub next : once.next ≡ Absent
    pub wakes : after.wakes ≡ before.wakes
    pub seats : vec_items after.seats ≡ vec_items before.seats

  -- one poll of the instance with this number, with this weight and this result
  abbrev pub PollsSeat : HandleBench R → ℕ → ℕ → Once → HandleBench R → Type 0
  PollsSeat before id weight once after =
      MatchOption (position (λ (seat : DropBomb R PollHandle). seat.value.number == id) (vec_items before.seats))
      (IsNowhere before once after)
      (IsPolledAt before weight once after)

module _ {R G : Type 0} where
  -- the poller has one more handle, and nothing else has changed
  pub record HasOneMore (before : Poller R G (ListPoller R)) (seat : DropBomb R PollHandle) (after : Poller R G (ListPoller R))
      : Type 0 where
    pub rest : after ≡ record before { served = after.served }
    pub list : after.served.list ≡ before.served.list
    pub limits : after.served.limits ≡ before.served.limits
    pub seats : vec_items after.served.bench.seats ≡ vec_items before.served.bench.seats ++ seat ∷ []
    pub room : vec_capacity after.served.bench.seats ≡ vec_capacity before.served.bench.seats

  -- the poller has a handle, and the first one has its caller
  pub record HasFirst (poller : Poller R G (ListPoller R)) : Type 0 where
    pub some : 1 ≤ vec_len poller.served.bench.seats
    pub caller : (seat : DropBomb R PollHandle) (rest : List (DropBomb R PollHandle))
        → vec_items poller.served.bench.seats ≡ seat ∷ rest → IsSome seat.value.caller

  -- the first of the poller's handles was taken, which had this caller
  pub record TakesFirst (before : Poller R G (ListPoller R)) (caller : Caller) (after : Poller R G (ListPoller R)) : Type 0 where
    pub seat : DropBomb R PollHandle
    pub first : vec_items before.served.bench.seats ≡ seat ∷ vec_items after.served.bench.seats
    pub caller_is : seat.value.caller ≡ Some caller
    pub of : IsSeatOf seat.value.napi.now caller.pass
