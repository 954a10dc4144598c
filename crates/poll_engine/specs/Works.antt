-- The contract of a worker, for its own station.
use Rattle.std.specs.Prelude.{◌≡◌, ℕ, ◌+◌, ◌≤◌, ◌++◌, Bool, None, IfSome, is_some, length}
use Rattle.poll_engine.specs.{Asks.WasLet, Stops.IsStop, Trails.questions, declared.acts.Act.Act}
use Rattle.poll_engine.specs.{declared.worker.WorkerHandles.WorkerHandles, declared.worker.InterruptWorker.InterruptWorker}
use Rattle.poll_engine.specs.{Acts.{after_acts, arrivals}, Hands.{ClosesOnce, Lists, ThreadWakes}, Questions.all_questions}
use Rattle.poll_engine.specs.{Runs.{Ledger, Whose, WorksBy}, Handles.{AreAtRest, AreSameHandles, is_on, pass_of}}
use Rattle.rx_ring.specs.{declared.ends.RxIn.RxIn, Ends.{SameIn, capacity_of, put_list}}
use Rattle.napi_calls.specs.{declared.types.Napi.Napi, Seats.{pass_number, own_list}}

-- the ledger of a worker, read off its handles and the ring's input
abbrev pub ledger_of : WorkerHandles → RxIn → Ledger
ledger_of handles rx = record {
  calls = own_list handles.caller.pass;
  controls = own_list (pass_of handles.control);
  put = put_list rx;
  on = is_on handles.control;
  threaded = handles.threaded;
}

-- the owner of that ledger
abbrev pub whose : WorkerHandles → RxIn → Bool → Whose
whose handles rx thread = record {
  caller = pass_number handles.caller.pass;
  controller = pass_number (pass_of handles.control);
  places = capacity_of rx;
  thread = thread;
}

-- `answers thread act answer` is what a gate returned when it was asked before this act of this thread
module _ {R D G : Type 0} (acts : D → ℕ) (answer : D → ℕ → Act) (after : D → ℕ → D) (answers : ℕ → ℕ → Bool → Type 0) where
  -- the worker's run made these acts: the own events of its caller and its controller grew accordingly
  abbrev pub HasWorked : Bool → InterruptWorker R D G → InterruptWorker R D G → Type 0
  HasWorked thread before done = WorksBy (whose before.handles.value before.rx thread) answer after before.device (acts before.device)
      (ledger_of before.handles.value before.rx) (ledger_of done.handles.value done.rx)

  -- the worker made all acts of the device, each once and in order, and put their packets, if there is room for all
  pub record IsDoneBy (napi : Napi) (thread : Bool) (number : ℕ) (before done : InterruptWorker R D G) : Type 0 where
    pub handles : AreAtRest napi done.handles.value
    pub same : AreSameHandles before.handles.value done.handles.value
    -- it pushed the station's number once for each time that it queued the instance on the list, and nothing else; and it woke the
    -- poller after each push
    pub lists : Lists before.handler before.handles.value.caller.pass done.handles.value.caller.pass before.out done.out
    -- it woke the instance's thread after each time that it queued the instance for it
    pub wakes : ThreadWakes before.handler before.handles.value.caller.pass done.handles.value.caller.pass before.out done.out
    -- it closed the thread's queue once, when it had disabled the instance: no thread ends while it could still be handed the instance
    pub closes : ClosesOnce before.handler done.handles.value before.closes done.closes
    pub let_go : done.stop ≡ None → WasLet answers number (acts before.device)
    -- it asked the gate once before each act
    pub asked : done.stop ≡ None
        → questions done.out.asked ≡ questions before.out.asked ++ all_questions after number before.device (acts before.device)
    pub run : done.stop ≡ None → HasWorked thread before done
    pub made : done.stop ≡ None → done.device ≡ after_acts after before.device (acts before.device)
    pub ring : SameIn before.rx done.rx
    pub few : length (put_list done.rx) ≤ length (put_list before.rx) + 4294967295
    pub put : done.stop ≡ None
        → length (put_list before.rx) + length (arrivals answer after before.device (acts before.device)) ≤ capacity_of before.rx
        → put_list done.rx ≡ put_list before.rx ++ arrivals answer after before.device (acts before.device)

module _ {R D G : Type 0} (acts : D → ℕ) (answer : D → ℕ → Act) (after : D → ℕ → D) (may_shut : Type 0)
    (answers : G → ℕ → ℕ → Bool → Type 0) where
  -- the worker before its run, and as its thread returned it
  pub record IsWorked (before done : InterruptWorker R D G) : Type 0 where
    pub why : IfSome done.stop (IsStop may_shut)
    pub same_handler : done.handler ≡ before.handler
    pub is : IsDoneBy acts answer after (answers before.context.now.gate) before.handler.napi.now (is_some before.handler.thread)
        before.handler.number before done
