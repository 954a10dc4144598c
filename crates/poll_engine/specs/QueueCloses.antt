-- When the queues of a run's pollers are closed.
use Rattle.std.specs.Prelude.{◌≡◌, ◌++◌, ℕ, true, List, map, vec_items, vec_len}
use Rattle.poll_engine.specs.{declared.driving.Tasks.Tasks, declared.setup.signals.Waker.Waker, Trails.signals}
use Rattle.poll_engine.specs.{declared.setup.trail.Trail.Trail, declared.setup.trail.Signal.Signal}

module _ {P W S : Type 0} where
  -- The queue of each poller was closed once, in order, when all workers had ended, so that nothing more is queued, and before any
  -- poller or thread of an instance was waited for: these end only after the close.
  pub record ClosesInTime (wakers : List Waker) (before : Trail (Signal (Tasks P W S))) (done : Tasks P W S)
      (after : Trail (Signal (Tasks P W S))) : Type 0 where
    pub at : Tasks P W S
    pub workers : vec_items at.workers ≡ vec_items done.workers
    pub pollers : vec_len at.pollers ≡ 0
    pub threads : vec_len at.threads ≡ 0
    pub closed : signals after ≡ signals before ++ map (λ waker. (waker, true, at)) wakers
