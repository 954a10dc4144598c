-- What a thread did that its results don't show: the questions to its gate, and the uses of its wakers, in order.
use Rattle.std.specs.Prelude.{ℕ, Bool, false, List, [], ◌∷◌, ◌++◌, map}
use Rattle.poll_engine.specs.{declared.setup.signals.Waker.Waker, declared.setup.trail.Trail.Trail, declared.setup.trail.Asked.Asked}
use Rattle.poll_engine.specs.declared.setup.trail.Signal.{Signal}

-- for each question: the thread's number, the act's number, and the thread's state
abbrev pub questions : {A : Type 0} → Trail (Asked A) → List (ℕ × ℕ × A)
questions trail = map (λ q. (q.by, q.act, q.at.value)) trail.entries

-- for each use of a waker: the waker, whether it closed the queue too, and the thread's state
abbrev pub signals : {A : Type 0} → Trail (Signal A) → List (Waker × Bool × A)
signals trail = map (λ s. (s.waker.value, s.closes, s.at.value)) trail.entries

-- for each use of a waker: the waker, whether it closed the queue too, and this fact about the thread's state
abbrev pub signals_with : {A B : Type 0} → (A → B) → Trail (Signal A) → List (Waker × Bool × B)
signals_with of trail = map (λ s. (s.0, s.1, of s.2)) (signals trail)

-- after each of these pushes the waker is used once, before the next push; the first list is what was pushed earlier
abbrev pub wakes_after : Waker → List ℕ → List ℕ → List (Waker × Bool × List ℕ)
wakes_after waker pushed [] = []
wakes_after waker pushed (n ∷ ns) = (waker, false, pushed ++ n ∷ []) ∷ wakes_after waker (pushed ++ n ∷ []) ns
