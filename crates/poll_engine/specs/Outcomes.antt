-- What the threads of a run hold of the instances. (Names with "seat" are about the handles of pollers.)
use Rattle.std.specs.{Prelude.{◌≡◌, ℕ, List, IsSome, Some, filter, length, map, vec_items}, List.{AllByRecursion, AllZip}}
use Rattle.poll_engine.specs.{Tasks.EachAt, Deals.is_own, declared.{setup.opening.Loose.Loose, worker.InterruptWorker.InterruptWorker}}
use Rattle.poll_engine.specs.{declared.handle.PollHandle.PollHandle, declared.list_poller.ListPoller.ListPoller}
use Rattle.poll_engine.specs.{declared.poller.Poller.Poller, declared.thread_poller.ThreadPoller.ThreadPoller}
use Rattle.napi_calls.specs.{declared.kept.DropBomb.DropBomb, Instance.IsSeatOf}

module _ {R D G : Type 0} where
  -- a handle with this caller, on the instance of the worker
  pub record IsSeatWith (worker : InterruptWorker R D G) (seat : DropBomb R PollHandle) : Type 0 where
    pub napi : seat.value.napi.now ≡ worker.handler.napi.now
    pub caller : IsSome seat.value.caller

  abbrev pub IsThreadWith : InterruptWorker R D G → Poller R G (ThreadPoller R) → Type 0
  IsThreadWith worker thread = IsSeatWith worker thread.served.seat

  -- a poller's handles are on its own instances, in the order of the instances
  abbrev pub AreSeatsAt : ℕ → List (InterruptWorker R D G) → ℕ → Poller R G (ListPoller R) → Type 0
  AreSeatsAt pollers workers k poller =
      AllZip IsSeatWith (filter (λ worker. is_own k pollers worker.handler.number) workers) (vec_items poller.served.bench.seats)

  -- these are the parts of an instance as its threads left them: the device, the ring's input and the handles are the worker's,
  -- and the callers those of the poller and of the thread
  pub record IsLeftBy (worker : InterruptWorker R D G) (poller : DropBomb R PollHandle) (thread : Poller R G (ThreadPoller R))
      (loose : Loose D)
      : Type 0 where
    pub number : loose.number ≡ worker.handler.number
    pub device : loose.device ≡ worker.device
    pub rx : loose.rx ≡ worker.rx
    pub handles : loose.handles ≡ worker.handles.value
    pub asked : loose.asked ≡ worker.out.asked
    pub poller_is : poller.value.caller ≡ Some loose.poller
    pub poller_of : IsSeatOf worker.handler.napi.now loose.poller.pass
    pub thread_is : thread.served.seat.value.caller ≡ Some loose.thread
    pub thread_of : IsSeatOf worker.handler.napi.now loose.thread.pass

-- what the threads of one instance hold of it
pub record Outcome (R D G : Type 0) : Type 0 where
  pub worker : InterruptWorker R D G
  pub poller : DropBomb R PollHandle
  pub thread : Poller R G (ThreadPoller R)
  pub loose : DropBomb R (Loose D)

module _ {R D G : Type 0} where
  -- what the threads hold of all instances, in order, each with the next handle of its poller
  pub record AreLeftBy (workers : List (InterruptWorker R D G)) (pollers : List (Poller R G (ListPoller R)))
      (threads : List (Poller R G (ThreadPoller R))) (loose : List (DropBomb R (Loose D))) : Type 0 where
    pub all : List (Outcome R D G)
    pub workers_are : map (λ o. o.worker) all ≡ workers
    pub threads_are : map (λ o. o.thread) all ≡ threads
    pub loose_are : map (λ o. o.loose) all ≡ loose
    pub each : AllByRecursion (λ o. IsLeftBy o.worker o.poller o.thread o.loose.value) all
    pub callers : EachAt (λ k poller. map (λ o. o.poller) (filter (λ o. is_own k (length pollers) o.worker.handler.number) all)
        ≡ vec_items poller.served.bench.seats) pollers
