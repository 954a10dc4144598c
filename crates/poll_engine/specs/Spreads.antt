-- The parts of stations, as they are distributed over the threads. (Names with "seat" are about the handles of pollers.)
use Rattle.std.specs.{Prelude.{◌≡◌, ℕ, ◌≤◌, List, [], IfSome, IsSome, Some, filter, is_some, length, vec_items, vec_capacity}, Global.Vec}
use Rattle.{std.specs.List.All, poll_engine.specs.{SharedLists.{IsInOf, IsNewList, pushed_by}, declared.list_in.ListIn.ListIn}}
use Rattle.poll_engine.specs.{declared.shared.SharedList.SharedList, Deals.{is_own, poller_by}, Tasks.{EachAt, IsAt}, Wakers.Wakes}
use Rattle.poll_engine.specs.declared.setup.{context.RunContext.RunContext, signals.Waker.Waker, opening.Placed.Placed}
use Rattle.poll_engine.specs.{declared.setup.opening.Loose.Loose, declared.worker.InterruptWorker.InterruptWorker}
use Rattle.poll_engine.specs.{declared.handle.PollHandle.PollHandle, declared.poller.Poller.Poller}
use Rattle.poll_engine.specs.{declared.list_poller.ListPoller.ListPoller, declared.thread_poller.ThreadPoller.ThreadPoller}
use Rattle.poll_engine.specs.Gives.{poller_name, thread_name}
use Rattle.napi_calls.specs.{declared.kept.DropBomb.DropBomb, declared.types.Caller.Caller}

module _ {R D G : Type 0} where
  -- the worker has the context that all threads share, the device with its number, its end of the ring, its handles, and the
  -- waker of the instance's thread
  pub record IsJobOf (context : RunContext R G) (loose : Loose D) (job : InterruptWorker R D G) : Type 0 where
    pub has : job.context.now ≡ context
    pub same_number : job.handler.number ≡ loose.number
    pub same_device : job.device ≡ loose.device
    pub same_rx : job.rx ≡ loose.rx
    pub same_handles : job.handles.value ≡ loose.handles
    pub same_asked : job.out.asked ≡ loose.asked
    pub thread : is_some job.handler.thread ≡ loose.has_thread

  abbrev pub IsKeptJobOf : RunContext R G → DropBomb R (Loose D) → InterruptWorker R D G → Type 0
  IsKeptJobOf context loose job = IsJobOf context loose.value job

  abbrev pub IsJobAt : DropBomb R Placed → InterruptWorker R D G → Type 0
  IsJobAt placed job = job.handler.napi.now ≡ placed.value.napi

module _ {R D : Type 0} where
  -- the handle has the instance's number and this caller, and has a waker exactly if there is a thread
  pub record IsSeatFor (loose : Loose D) (caller : Caller) (seat : DropBomb R PollHandle) : Type 0 where
    pub number : seat.value.number ≡ loose.number
    pub thread : is_some seat.value.thread ≡ loose.has_thread
    pub caller_is : seat.value.caller ≡ Some caller

  abbrev pub IsKeptSeatFor : DropBomb R (Loose D) → DropBomb R PollHandle → Type 0
  IsKeptSeatFor loose seat = IsSeatFor loose.value loose.value.poller seat

  module _ {G : Type 0} where
    -- the thread of an instance has its name, the thread's caller, and the context that all threads share
    pub record IsThreadFor (context : RunContext R G) (loose : Loose D) (side : Poller R G (ThreadPoller R)) : Type 0 where
      pub has : side.context.now ≡ context
      pub paced : side.served.limits ≡ context.limits
      pub named : side.name ≡ thread_name loose.number
      pub seat : IsSeatFor loose loose.thread side.served.seat

    abbrev pub IsKeptThreadFor : RunContext R G → DropBomb R (Loose D) → Poller R G (ThreadPoller R) → Type 0
    IsKeptThreadFor context loose side = IsThreadFor context loose.value side

module _ {R : Type 0} where
  -- the handle is on this instance, and has the waker of its thread, if there is one
  pub record IsSeatAt (placed : DropBomb R Placed) (seat : DropBomb R PollHandle) : Type 0 where
    pub number : seat.value.number ≡ placed.value.number
    pub napi : seat.value.napi.now ≡ placed.value.napi
    pub waker : IfSome seat.value.thread (λ b. b.now ≡ placed.value.waker)
    pub caller : IsSome seat.value.caller

  -- the thread's handle is on this instance, and the instance's waker wakes the thread
  pub record IsThreadAt {G : Type 0} (placed : DropBomb R Placed) (side : Poller R G (ThreadPoller R)) : Type 0 where
    pub seat : IsSeatAt placed side.served.seat
    pub waker : side.waker.now ≡ placed.value.waker
    pub wakes : Wakes side.waker.now side.wait

module _ {R : Type 0} where
  -- an end of this list, at which nothing was pushed yet
  abbrev pub IsNewEnd : SharedList R → ListIn R → Type 0
  IsNewEnd list end = IsInOf list end × (pushed_by end ≡ [])

  -- an end of the list of the poller with this number
  abbrev pub IsEndOf : List (SharedList R) → ℕ → ListIn R → Type 0
  IsEndOf lists poller end = (list : SharedList R) × IsAt lists poller list × IsNewEnd list end

  -- for each poller, these are ends of its list
  abbrev pub AreEndsOf : List (SharedList R) → List (Vec (ListIn R)) → Type 0
  AreEndsOf lists ends = EachAt (λ k own. All (IsEndOf lists k) (vec_items own)) ends

  module _ {G : Type 0} (lists : List (SharedList R)) (wakers : List Waker) where
    -- a worker pushes on the list of its station's poller, and wakes that poller
    pub record IsWiredJob {D : Type 0} (job : InterruptWorker R D G) : Type 0 where
      pub list : IsEndOf lists (poller_by (length wakers) job.handler.number) job.out.list
      pub waker : IsAt wakers (poller_by (length wakers) job.handler.number) job.handler.poller.now

    -- the thread poller of an instance pushes on the list of its station's poller, and wakes that poller
    pub record IsWiredSide (side : Poller R G (ThreadPoller R)) : Type 0 where
      pub list : IsEndOf lists (poller_by (length wakers) side.served.seat.value.number) side.served.list
      pub waker : IsAt wakers (poller_by (length wakers) side.served.seat.value.number) side.served.poller.now

-- of these handles, those of the poller with this number, if there are this many pollers
abbrev pub own_seats : {R : Type 0} → ℕ → ℕ → List (DropBomb R PollHandle) → List (DropBomb R PollHandle)
own_seats {R} pollers number seats = filter (λ (seat : DropBomb R PollHandle). is_own number pollers seat.value.number) seats

module _ {R G : Type 0} (context : RunContext R G) (wakers : List Waker) (count : ℕ) where
  -- The poller with this number has the context that all threads share, the waker of this number, which wakes it, a new list,
  -- and these handles, with room for this many.
  pub record IsPoller (seats : List (DropBomb R PollHandle)) (number : ℕ) (poller : Poller R G (ListPoller R)) : Type 0 where
    pub has : poller.context.now ≡ context
    pub paced : poller.served.limits ≡ context.limits
    pub named : poller.name ≡ poller_name number
    pub waker : IsAt wakers number poller.waker.now
    pub wakes : Wakes poller.waker.now poller.wait
    pub new : (ends : ℕ) × IsNewList ends poller.served.list
    pub seats_are : vec_items poller.served.bench.seats ≡ seats
    pub room : count ≤ vec_capacity poller.served.bench.seats

  -- there is a poller for each waker, each with its own handles
  pub record ArePollers (seats : List (DropBomb R PollHandle)) (pollers : List (Poller R G (ListPoller R))) : Type 0 where
    pub each : EachAt (λ k poller. IsPoller (own_seats (length wakers) k seats) k poller) pollers
    pub as_many : length pollers ≡ length wakers
