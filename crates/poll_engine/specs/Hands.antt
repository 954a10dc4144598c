-- What a worker pushes on the list, and which pollers it wakes, for the hand-overs among the events of its caller.
use Rattle.std.specs.Prelude.{◌≡◌, ℕ, Bool, true, false, List, [], ◌∷◌, ◌++◌, MatchOption, if◌then◌else◌}
use Rattle.{napi_model.specs.{declared.event.Event.Event, declared.event.Operation.Operation}, napi_word.specs.declared.table.Pass.Pass}
use Rattle.napi_calls.specs.{Seats.own_list, declared.types.Caller.Caller}
use Rattle.poll_engine.specs.{declared.list_in.ListIn.ListIn, SharedLists.pushed_by, Trails.{signals, signals_with, wakes_after}}
use Rattle.poll_engine.specs.{declared.setup.signals.Waker.Waker, declared.setup.trail.Trail.Trail, declared.setup.trail.Signal.Signal}
use Rattle.poll_engine.specs.declared.{worker.{InterruptHandler.InterruptHandler, WorkerHandles.WorkerHandles}, outbox.Outbox.Outbox}
use Rattle.napi_model.specs.declared.state.Kind.TheVariants as kind
use Rattle.napi_model.specs.declared.event.Operation.TheVariants as operation
use Rattle.poll_engine.specs.SharedLists as list

-- the operation queues the instance on the list
abbrev pub is_listing : Operation → Bool
is_listing (operation.Hand kind.List) = true
is_listing _ = false

-- the operation queues the instance for its own thread
abbrev pub is_threading : Operation → Bool
is_threading (operation.Hand kind.Thread) = true
is_threading _ = false

-- the caller's last event queued its instance on the list
pub record HasListed (p : Pass) : Type 0 where
  pub earlier : List Event
  pub event : Event
  pub last : own_list p ≡ earlier ++ event ∷ []
  pub listing : is_listing event.operation ≡ true

-- what is pushed for these events: the instance's number, once for each time that it was queued on the list
abbrev pub listings : ℕ → List Event → List ℕ
listings number [] = []
listings number (e ∷ es) = (if is_listing e.operation then number ∷ [] else []) ++ listings number es

-- after each of these events that queues the instance for its thread the thread is woken, before the next event; the first list
-- is the caller's earlier events
abbrev pub thread_wakes_after : Waker → List Event → List Event → List (Waker × Bool × List Event)
thread_wakes_after waker own [] = []
thread_wakes_after waker own (e ∷ es) =
    (if is_threading e.operation then (waker, false, own ++ e ∷ []) ∷ [] else []) ++ thread_wakes_after waker (own ++ e ∷ []) es

-- the wake-ups of a trace, each with what was pushed before it
abbrev pub list_wakes : {R : Type 0} → Trail (Signal (ListIn R)) → List (Waker × Bool × List ℕ)
list_wakes = signals_with pushed_by

-- the wake-ups of a trace, each with the caller's events before it
abbrev pub thread_wakes : Trail (Signal Caller) → List (Waker × Bool × List Event)
thread_wakes = signals_with (λ caller. own_list caller.pass)

module _ {R D : Type 0} where
  -- Between the passes p and q, the caller queued its instance on the list as many times as its number was pushed there, and
  -- nothing else was pushed. After each push, and before the next one, the list's poller was woken once.
  pub record Lists (handler : InterruptHandler R) (p q : Pass) (before after : Outbox R D) : Type 0 where
    pub same : list.SameListIn before.list after.list
    pub did : List Event
    pub grown : own_list q ≡ own_list p ++ did
    pub pushed : pushed_by after.list ≡ pushed_by before.list ++ listings handler.number did
    pub woken : list_wakes after.list_wakes
        ≡ list_wakes before.list_wakes ++ wakes_after handler.poller.now (pushed_by before.list) (listings handler.number did)

  -- Between the passes p and q, the instance's thread was woken once after each event by which the caller queued the instance for
  -- it, before the caller's next event.
  pub record ThreadWakes (handler : InterruptHandler R) (p q : Pass) (before after : Outbox R D) : Type 0 where
    pub did : List Event
    pub grown : own_list q ≡ own_list p ++ did
    pub woken : MatchOption handler.thread
        (thread_wakes after.thread_wakes ≡ thread_wakes before.thread_wakes)
        (λ w. thread_wakes after.thread_wakes ≡ thread_wakes before.thread_wakes ++ thread_wakes_after w.now (own_list p) did)

-- the queue of the instance's thread was closed once, with the worker's handles as these are
abbrev pub ClosesOnce : {R : Type 0} → InterruptHandler R → WorkerHandles → (before after : Trail (Signal WorkerHandles)) → Type 0
ClosesOnce handler handles before after = MatchOption handler.thread
    (signals after ≡ signals before)
    (λ w. signals after ≡ signals before ++ (w.now, true, handles) ∷ [])
