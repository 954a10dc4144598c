-- The events that each result of a call stands for.
use Rattle.std.specs.Prelude.{Bool, true, false, List, [], ◌∷◌, ◌++◌, flat_map, Option, Result, Ok, Err}
use Rattle.napi_model.specs.declared.{state.{Seen.Seen, Kind.Kind}, event.Operation.TheVariants.{Look, Schedule, Take, Complete, BusyTake}}
use Rattle.napi_model.specs.{declared.event.Operation.TheVariants.{BusyStop, MarkDisable, TakeDisable, Unmark, Enable}, Step.MayBusyTake}
use Rattle.{napi_word.specs.declared.table.Pass.Pass, napi_calls.specs.declared.types.{Caller.Caller, Polling.Polling, Busy.Busy}}
use Rattle.napi_calls.specs.declared.answers.{TryPrep.TryPrep, Sched.Sched, TryDone.TryDone, Completed.Completed, TryBusy.TryBusy}
use Rattle.napi_calls.specs.{declared.answers.{TryStop.TryStop, TryTake.TryTake}, Made.{Made, Lost, WasLost, looks, take_attempt}}
use Rattle.napi_model.specs.declared.event.Prep.TheVariants as prep
use Rattle.napi_model.specs.declared.event.Done.TheVariants as done
use Rattle.napi_model.specs.declared.event.Call.TheVariants as call
use Rattle.napi_calls.specs.declared.answers.TryPrep.TheVariants as try_prep
use Rattle.napi_calls.specs.declared.answers.Sched.TheVariants as sched
use Rattle.napi_calls.specs.declared.answers.TryDone.TheVariants as try_done
use Rattle.napi_calls.specs.declared.answers.Completed.TheVariants as completed
use Rattle.napi_calls.specs.declared.answers.TryBusy.TheVariants as try_busy
use Rattle.napi_calls.specs.declared.answers.TryStop.TheVariants as try_stop
use Rattle.napi_calls.specs.declared.answers.TryTake.TheVariants as try_take

-- the pass that the caller has after this result
abbrev pub seat_of : TryPrep → Pass
seat_of (try_prep.Granted g) = g.pass
seat_of (try_prep.Missed c) = c.pass
seat_of (try_prep.Disabled c) = c.pass
seat_of (try_prep.Changed c) = c.pass

-- ---- one attempt

-- `napi_schedule_prep`
abbrev pub Prepares : Pass → TryPrep → Type 0
Prepares p (try_prep.Granted g) = (x : Seen) × Made p (Look x ∷ Schedule prep.Granted ∷ []) g.pass
Prepares p (try_prep.Missed c) = (x : Seen) × Made p (Look x ∷ Schedule prep.Missed ∷ []) c.pass
Prepares p (try_prep.Disabled c) = Made p (Schedule prep.Disabled ∷ []) c.pass
Prepares p (try_prep.Changed c) = WasLost call.Schedule p c.pass

-- something runs between the two steps of a call, unless the first step decides it: then it doesn't run
abbrev pub RunsUnlessDisabled : TryPrep → Type 0 → Type 0 → Type 0
RunsUnlessDisabled (try_prep.Disabled c) same ran = same
RunsUnlessDisabled (try_prep.Granted g) same ran = ran
RunsUnlessDisabled (try_prep.Missed c) same ran = ran
RunsUnlessDisabled (try_prep.Changed c) same ran = ran

abbrev pub RunsUnlessBusy : TryTake → Type 0 → Type 0 → Type 0
RunsUnlessBusy (try_take.Busy c) same ran = same
RunsUnlessBusy (try_take.Taken c) same ran = ran
RunsUnlessBusy (try_take.Changed c) same ran = ran

abbrev pub RunsUnlessRefused : TryBusy → Type 0 → Type 0 → Type 0
RunsUnlessRefused (try_busy.Refused c) same ran = same
RunsUnlessRefused (try_busy.Taken b) same ran = ran
RunsUnlessRefused (try_busy.Changed c) same ran = ran

-- `net_rx_action` and `napi_thread_wait`, which find the instance or not
abbrev pub Takes : Kind → Pass → Result Polling Caller → Type 0
Takes k p (Ok w) = Made p (Take k true ∷ []) w.pass
Takes k p (Err c) = Made p (Take k false ∷ []) c.pass

-- `napi_complete_done`
abbrev pub TriesToComplete : Pass → TryDone → Type 0
TriesToComplete p (try_done.Released c) = (x : Seen) × Made p (Look x ∷ Complete done.Released ∷ []) c.pass
TriesToComplete p (try_done.Again g) = (x : Seen) × Made p (Look x ∷ Complete done.Again ∷ []) g.pass
TriesToComplete p (try_done.Changed w) = WasLost call.Complete p w.pass

-- `napi_busy_loop`: it fails exactly if the look shows that the instance may not be taken
abbrev pub TriesToBusyPoll : Pass → TryBusy → Type 0
TriesToBusyPoll p (try_busy.Taken b) = (x : Seen) × MayBusyTake x.flags × Made p (Look x ∷ BusyTake ∷ []) b.pass
TriesToBusyPoll p (try_busy.Refused c) = (x : Seen) × ¬ MayBusyTake x.flags × Made p (Look x ∷ []) c.pass
TriesToBusyPoll p (try_busy.Changed c) = WasLost call.BusyTake p c.pass

-- `busy_poll_stop`
abbrev pub TriesToStop : Pass → TryStop → Type 0
TriesToStop p (try_stop.Stopped w) = (x : Seen) × Made p (Look x ∷ BusyStop ∷ []) w.pass
TriesToStop p (try_stop.Changed b) = WasLost call.BusyStop p b.pass

-- `napi_disable`, after its mark
abbrev pub TriesToTake : Pass → TryTake → Type 0
TriesToTake p (try_take.Taken c) = (x : Seen) × Made p (Look x ∷ TakeDisable true ∷ Unmark ∷ []) c.pass
TriesToTake p (try_take.Busy c) = Made p (TakeDisable false ∷ []) c.pass
TriesToTake p (try_take.Changed c) = WasLost call.TakeDisable p c.pass

-- `napi_enable`
abbrev pub EnablesAt : Bool → Pass → Pass → Type 0
EnablesAt threaded p q = (x : Seen) × Made p (Look x ∷ Enable threaded ∷ []) q

-- ---- repeated attempts: those that failed, and then the one that succeeded

abbrev pub Schedules : Pass → Sched → Type 0
Schedules p (sched.Granted g) =
    (ts : List (Lost call.Schedule)) × (x : Seen) × Made p (flat_map looks ts ++ Look x ∷ Schedule prep.Granted ∷ []) g.pass
Schedules p (sched.Missed c) =
    (ts : List (Lost call.Schedule)) × (x : Seen) × Made p (flat_map looks ts ++ Look x ∷ Schedule prep.Missed ∷ []) c.pass
Schedules p (sched.Disabled c) = (ts : List (Lost call.Schedule)) × Made p (flat_map looks ts ++ Schedule prep.Disabled ∷ []) c.pass

abbrev pub Completes : Pass → Completed → Type 0
Completes p (completed.Released c) =
    (ts : List (Lost call.Complete)) × (x : Seen) × Made p (flat_map looks ts ++ Look x ∷ Complete done.Released ∷ []) c.pass
Completes p (completed.Again g) =
    (ts : List (Lost call.Complete)) × (x : Seen) × Made p (flat_map looks ts ++ Look x ∷ Complete done.Again ∷ []) g.pass

abbrev pub BusyPolling : Pass → Result Busy Caller → Type 0
BusyPolling p (Ok b) =
    (ts : List (Lost call.BusyTake)) × (x : Seen) × MayBusyTake x.flags × Made p (flat_map looks ts ++ Look x ∷ BusyTake ∷ []) b.pass
BusyPolling p (Err c) =
    (ts : List (Lost call.BusyTake)) × (x : Seen) × ¬ MayBusyTake x.flags × Made p (flat_map looks ts ++ Look x ∷ []) c.pass

abbrev pub Stops : Pass → Pass → Type 0
Stops p q = (ts : List (Lost call.BusyStop)) × (x : Seen) × Made p (flat_map looks ts ++ Look x ∷ BusyStop ∷ []) q

-- the mark of a disable, and then the attempts to take the instance
abbrev pub Disables : Pass → Pass → Type 0
Disables p q = (ts : List (Option (Lost call.TakeDisable))) × (x : Seen)
    × Made p ((MarkDisable ∷ flat_map take_attempt ts) ++ Look x ∷ TakeDisable true ∷ Unmark ∷ []) q

abbrev pub Enables : Bool → Pass → Pass → Type 0
Enables threaded p q =
    (ts : List (Lost (call.Enable threaded))) × (x : Seen) × Made p (flat_map looks ts ++ Look x ∷ Enable threaded ∷ []) q
