-- When a poller wakes the thread of an instance.
use Rattle.std.specs.{Prelude.{◌≡◌, false, Bool, true, Option, List, [], ◌∷◌, ◌++◌, MatchOption, if◌then◌else◌}, Borrow.Bor}
use Rattle.napi_calls.specs.declared.types.Caller.{Caller}
use Rattle.poll_runs.specs.{declared.bench.Next.Next, declared.bench.Next.TheVariants.Again}
use Rattle.poll_engine.specs.{Trails.signals, declared.setup.signals.Waker.Waker}
use Rattle.poll_engine.specs.declared.setup.trail.{Trail.Trail, Signal.Signal}
use Rattle.napi_model.specs.declared.state.Kind.TheVariants as kind

-- a poll from the list queued the instance for its own thread
abbrev pub moves_to_thread : Next → Bool
moves_to_thread (Again kind.Thread) = true
moves_to_thread _ = false

-- The instance's thread, if it has one, is woken once after a poll that queued the instance for it, and not otherwise. `caller` is
-- the caller after the poll.
abbrev pub WakesThread : Option (Bor Waker) → Next → Option Caller → Trail (Signal (Option Caller)) → Trail (Signal (Option Caller))
    → Type 0
WakesThread thread next caller before after = MatchOption thread
    (signals after ≡ signals before)
    (λ w. signals after ≡ signals before ++ (if moves_to_thread next then (w.now, false, caller) ∷ [] else []))
