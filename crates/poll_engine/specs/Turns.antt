-- A turn of a poller with a list, and of the thread of an instance.
use Rattle.std.specs.Prelude.{◌≡◌, ◌++◌, not, is_some, Bool, List, nat_lt}
use Rattle.poll_engine.specs.{SharedLists.{IsAllPopped, PopsCame, in_hand, pushed_by}, declared.list_poller.ListPoller.ListPoller}
use Rattle.poll_engine.specs.{declared.thread_poller.ThreadPoller.ThreadPoller, Trails.{signals_with, wakes_after}}
use Rattle.poll_engine.specs.{HandleBenches.PollsSeat, Polled.{PollsByThread, handed_on}, SeatKeeping.IsSameSeat}
use Rattle.poll_runs.specs.{Polls.{At, Chain, Poll}, Run.IsRun, declared.bench.ThreadReport.ThreadReport}
use Rattle.poll_runs.specs.declared.run.RunReport.{RunReport}

module _ {R : Type 0} where
  -- the poller has nothing to poll: it is the thread of an instance that has no thread
  abbrev pub has_no_thread : ThreadPoller R → Bool
  has_no_thread served = not (is_some served.seat.value.thread)

  -- one run over the list, with the budget, the weight and the window of these limits (`net_rx_action`)
  pub record RunsOnce (before : ListPoller R) (report : RunReport) (after : ListPoller R) : Type 0 where
    pub polls : List Poll
    pub seats : Chain (At PollsSeat before.limits.weight) before.bench polls after.bench
    pub run : IsRun in_hand PopsCame IsAllPopped before.limits.budget before.limits.window before.list polls after.list report
    pub limits : after.limits ≡ before.limits

  -- a turn of a poller with a list is one run; it reports whether anything was polled
  pub record TurnsByRun (before : ListPoller R) (found : Bool) (after : ListPoller R) : Type 0 where
    pub report : RunReport
    pub run : RunsOnce before report after
    pub found_polls : found ≡ nat_lt 0 report.polls

  -- A turn of an instance's thread polls the instance, with the weight and the window of the limits (`napi_threaded_poll`). It
  -- reports whether anything was polled, and queues on the list an instance that the thread may not poll again.
  pub record TurnsAlone (before : ThreadPoller R) (found : Bool) (after : ThreadPoller R) : Type 0 where
    pub report : ThreadReport
    pub same : IsSameSeat before.seat.value after.seat.value
    pub polls : PollsByThread before.limits.weight before.limits.window before.seat.value.caller report
        after.batch.items after.seat.value.caller
    pub handed : pushed_by after.list ≡ pushed_by before.list ++ handed_on report.next before.seat.value.number
    -- after a push it wakes the list's poller, once
    pub woken : signals_with pushed_by after.wakes ≡ signals_with pushed_by before.wakes
        ++ wakes_after before.poller.now (pushed_by before.list) (handed_on report.next before.seat.value.number)
    pub limits : after.limits ≡ before.limits
    pub found_polls : found ≡ nat_lt 0 report.polls
