-- Which waker wakes which thread, and which queues were closed.
use Rattle.std.specs.{Prelude.{◌≡◌, true, List, [], ◌∷◌, ◌++◌}, Arc.arc_value}
use Rattle.poll_engine.specs.{declared.setup.signals.Waker.Waker, declared.setup.signals.IdleWait.IdleWait}
use Rattle.poll_engine.specs.declared.setup.trail.{Signal.Signal, Trail.Trail}

-- the waker wakes the thread that waits by this `IdleWait`
abbrev pub Wakes : Waker → IdleWait → Type 0
Wakes waker wait = arc_value waker.unparker.state ≡ arc_value wait.parker.unparker.state

-- The queue of a waker was closed. Only a trace whose last entry is a close proves it.
pub IsQueueClosed : Type 0
IsQueueClosed = Unit {0}

pub closed_by : {A : Type 0} (trail : Trail (Signal A)) (earlier : List (Signal A)) (last : Signal A)
    → trail.entries ≡ earlier ++ last ∷ [] → last.closes ≡ true → IsQueueClosed
unfolding IsQueueClosed
closed_by trail earlier last is closes = tt

-- A thread in this state saw that the queue of the waker was closed. Only a closed queue proves it.
pub SawClosed : {A : Type 0} → Waker → A → Type 0
SawClosed waker at = Unit {0}

pub saw_closed : {A : Type 0} → IsQueueClosed → (waker : Waker) (at : A) → SawClosed waker at
unfolding SawClosed
saw_closed closed waker at = tt
