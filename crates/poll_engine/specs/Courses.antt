-- Which poller polled which station in a run, and with which limits.
use Rattle.poll_engine.specs.{Asks.IsAsked, Tasks.{EachAt, IsAt}, declared.setup.context.PollLimits.PollLimits}
use Rattle.poll_engine.specs.{declared.setup.context.RunContext.RunContext, Finishes.IsWorkedOf, Outcomes.AreLeftBy}
use Rattle.poll_engine.specs.{Spreads.{IsEndOf, IsKeptSeatFor}, declared.handle.PollHandle.PollHandle, Gives.{IsPolledAlone, IsPolledBy}}
use Rattle.poll_engine.specs.{declared.poller.Poller.Poller, declared.list_poller.ListPoller.ListPoller}
use Rattle.poll_engine.specs.{declared.thread_poller.ThreadPoller.ThreadPoller, declared.worker.InterruptWorker.InterruptWorker}
use Rattle.poll_engine.specs.{SharedLists.{IsInOf, IsNewList, pushed_by}, declared.list_in.ListIn.ListIn}
use Rattle.poll_engine.specs.{declared.shared.SharedList.SharedList, Handles.IsUnused, Hands.listings}
use Rattle.poll_engine.specs.{Deals.{is_dealt, is_own, poller_by}, declared.setup.opening.Loose.Loose, declared.acts.Act.Act}
use Rattle.poll_engine.specs.{declared.station.Finished.Finished, declared.station.Station.Station}
use Rattle.poll_engine.specs.Runs.{HasRun, poller_number, thread_number}
use Rattle.std.specs.Prelude.{◌≡◌, ◌≢◌, ℕ, ◌<◌, Bool, List, [], ◌∷◌, Some, None, filter, is_some, length, map, MatchBool, vec_items}
use Rattle.std.specs.List.{All, AllByRecursion, AllZip}
use Rattle.napi_calls.specs.{Seats.own_list, declared.kept.DropBomb.DropBomb, declared.types.Caller.Caller}

abbrev pub limits_of : ℕ → ℕ → ℕ → PollLimits
limits_of budget weight window = record { budget = budget; weight = weight; window = window }

-- ---- a whole run: the stations, how each ended, and what polled it

-- a station, and how its run ended
pub record Course (D : Type 0) : Type 0 where
  pub station : Station D
  pub end : Finished D

-- a poller's handle on a station before its first turn: it has the station's number, it has a waker exactly if the station has
-- a thread, and no call was made by it (names with "seat" are about such handles)
pub record IsFreshSeat {R D : Type 0} (station : Station D) (seat : DropBomb R PollHandle) : Type 0 where
  pub number : seat.value.number ≡ station.number
  pub thread : is_some seat.value.thread ≡ station.thread
  pub caller : Caller
  pub there : seat.value.caller ≡ Some caller
  pub unused : IsUnused poller_number caller

-- the handle after the last turn, with this caller
abbrev pub IsSpentSeat : {R : Type 0} → Caller → DropBomb R PollHandle → Type 0
IsSpentSeat caller seat = seat.value.caller ≡ Some caller

-- The worker of the station with this number pushed on the list of the station's poller: the number once for each time that it
-- queued its instance on the list, and nothing else. The caller is the worker's at the end.
pub record Pushes {R : Type 0} (lists : List (SharedList R)) (pollers : ℕ) (number : ℕ) (worker : Caller) : Type 0 where
  pub list : SharedList R
  pub there : IsAt lists (poller_by pollers number) list
  pub end : ListIn R
  pub of : IsInOf list end
  pub pushed : pushed_by end ≡ listings number (own_list worker.pass)

-- `lists` are the lists of this many pollers
module _ (R : Type 0) (asked : ℕ → Type 0) (limits : PollLimits) (lists : List (SharedList R)) (pollers : ℕ) where
  -- exactly if the station has a thread, the thread took its turns with these limits, and queued on the list of the station's
  -- poller
  abbrev pub TurnsIfThread : Bool → ℕ → Caller → Caller → Type 0
  TurnsIfThread thread number before after =
      MatchBool thread
      ((end : ListIn R) × IsEndOf lists (poller_by pollers number) end × IsPolledAlone R asked limits number end before after)
      (after ≡ before)

  -- the poller with this number took its turns with these limits, over its own list, and polled exactly these stations
  pub record TakesTurns {D : Type 0} (number : ℕ) (courses : List (Course D)) : Type 0 where
    pub list : SharedList R
    pub there : IsAt lists number list
    pub ends : ℕ
    pub new : IsNewList ends list
    pub before : List (DropBomb R PollHandle)
    pub after : List (DropBomb R PollHandle)
    pub from : AllZip (λ course seat. IsFreshSeat course.station seat) courses before
    pub turns : IsPolledBy asked limits number list before after
    pub to : AllZip (λ course seat. IsSpentSeat course.end.closed.poller.value seat) courses after

  -- The station's acts were a run on its instance, whose history contains everything that its worker, its poller and its thread
  -- did.
  pub record IsCourse {D : Type 0} (acts : D → ℕ) (answer : D → ℕ → Act) (after : D → ℕ → D) (course : Course D) : Type 0 where
    pub run : HasRun answer after course.station.capacity course.station.thread course.station.device
        (acts course.station.device) course.end.closed course.end.totals
    pub pushes : Pushes lists pollers course.station.number course.end.closed.worker.value
    pub thread : Caller
    pub unused : IsUnused thread_number thread
    pub turns : TurnsIfThread course.station.thread course.station.number thread course.end.closed.thread.value

module _ (R : Type 0) (asked : ℕ → Type 0) (limits : PollLimits) {D : Type 0} (acts : D → ℕ) (answer : D → ℕ → Act) (after : D → ℕ
    → D) where
  -- Each station has its course. If there is a station, each poller took its turns, which its gate allowed: poller k over its own
  -- stations, whose number minus 1, modulo the count of pollers, is k; if it has none, over an empty list.
  pub record ArePolled (pollers : ℕ) (stations : List (Station D)) (ends : List (Finished D)) : Type 0 where
    pub lists : List (SharedList R)
    pub courses : List (Course D)
    pub stations_are : map (λ course. course.station) courses ≡ stations
    pub ends_are : map (λ course. course.end) courses ≡ ends
    pub each : AllByRecursion (IsCourse R asked limits lists pollers acts answer after) courses
    pub crews : stations ≢ [] → (number : ℕ) → number < pollers
        → TakesTurns R asked limits lists pollers number (filter (λ course. is_dealt number pollers course.station) courses)

-- ---- what the threads of a run returned

module _ {R D G : Type 0} (asked : ℕ → Type 0) (limits : PollLimits) (lists : List (SharedList R)) (pollers : ℕ) where
  -- the poller took its turns: from the handles on its own instances to those that it returned
  pub record HasPolled (loose : List (DropBomb R (Loose D))) (number : ℕ) (poller : Poller R G (ListPoller R)) : Type 0 where
    pub before : List (DropBomb R PollHandle)
    pub list : SharedList R
    pub there : IsAt lists number list
    pub ends : ℕ
    pub new : IsNewList ends list
    pub from : AllZip IsKeptSeatFor (filter (λ l. is_own number pollers l.value.number) loose) before
    pub turns : poller.stop ≡ None → IsPolledBy asked limits number list before (vec_items poller.served.bench.seats)

  -- the thread of an instance took its turns, unless the run ended early
  abbrev pub HasTurned : DropBomb R (Loose D) → Poller R G (ThreadPoller R) → Type 0
  HasTurned loose thread = (after : Caller) → thread.served.seat.value.caller ≡ Some after → thread.stop ≡ None
      → TurnsIfThread R asked limits lists pollers loose.value.has_thread loose.value.number loose.value.thread after

-- All threads of a run ended, none of them early, and returned these parts of the instances.
pub record HaveRun {R D G : Type 0} (acts : D → ℕ) (answer : D → ℕ → Act) (after : D → ℕ → D) (answers : G → ℕ → ℕ → Bool → Type 0)
    (context : RunContext R G) (pollers : ℕ) (loose left : List (DropBomb R (Loose D))) : Type 0 where
  pub lists : List (SharedList R)
  pub workers : List (InterruptWorker R D G)
  pub polled : List (Poller R G (ListPoller R))
  pub threads : List (Poller R G (ThreadPoller R))
  pub same : length polled ≡ pollers
  pub made : AllZip (IsWorkedOf acts answer after (answers context.gate) lists pollers) loose workers
  pub ran : EachAt (HasPolled (IsAsked answers context.gate) context.limits lists pollers loose) polled
  pub turned : AllZip (HasTurned (IsAsked answers context.gate) context.limits lists pollers) loose threads
  pub left_by : AreLeftBy workers polled threads left
  pub whole : All (λ w. w.stop ≡ None) workers
  pub whole_polls : All (λ p. p.stop ≡ None) polled
  pub whole_turns : All (λ p. p.stop ≡ None) threads
