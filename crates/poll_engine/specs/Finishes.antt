-- What holds after a finished run.
use Rattle.std.specs.Prelude.{◌≡◌, ℕ, ◌+◌, ◌≤◌, Bool, length, List}
use Rattle.poll_engine.specs.{Asks.WasLet, Trails.questions, declared.acts.Act.Act, declared.setup.opening.Loose.Loose}
use Rattle.poll_engine.specs.{declared.worker.InterruptWorker.InterruptWorker, declared.station.Finished.Finished}
use Rattle.poll_engine.specs.{declared.station.Station.Station, Acts.{after_acts, arrivals}, Questions.all_questions, Runs.HasRun}
use Rattle.poll_engine.specs.{Works.IsDoneBy, Deals.poller_by, declared.shared.SharedList.SharedList, Spreads.IsEndOf}
use Rattle.{rx_ring.specs.ReceiveRing.{bytes_of, capped}, napi_calls.specs.{declared.kept.DropBomb.DropBomb, declared.types.Napi.Napi}}

module _ {D : Type 0} (acts : D → ℕ) (answer : D → ℕ → Act) (after : D → ℕ → D) (answers : ℕ → ℕ → Bool → Type 0) where
  -- The station's device made its acts, each once and in order. Each packet that was put was polled or is still in the ring. If
  -- the ring has room for all its packets, all were put. Its acts were a run on its instance.
  pub record IsFinished (station : Station D) (end : Finished D) : Type 0 where
    pub same_number : end.number ≡ station.number
    pub let_go : WasLet answers station.number (acts station.device)
    -- the gate was asked exactly once before each act, with the act's number, and before the device was asked for the act
    pub asked : questions end.asked ≡ all_questions after station.number station.device (acts station.device)
    pub made : end.device ≡ after_acts after station.device (acts station.device)
    pub sum : end.totals.put ≡ end.totals.polled + end.totals.left
    pub put : length (arrivals answer after station.device (acts station.device)) ≤ station.capacity
        → (end.totals.put ≡ length (arrivals answer after station.device (acts station.device)))
        × (end.totals.bytes ≡ capped (bytes_of (arrivals answer after station.device (acts station.device))))
    pub run : HasRun answer after station.capacity station.thread station.device (acts station.device) end.closed end.totals

  -- The worker of a station ended in this state, and had pushed on the list of its poller.
  pub record IsWorkedOf {R G : Type 0} (lists : List (SharedList R)) (pollers : ℕ) (loose : DropBomb R (Loose D))
      (done : InterruptWorker R D G)
      : Type 0 where
    pub napi : Napi
    pub before : InterruptWorker R D G
    pub number : before.handler.number ≡ loose.value.number
    pub device : before.device ≡ loose.value.device
    pub rx : before.rx ≡ loose.value.rx
    pub handles : before.handles.value ≡ loose.value.handles
    pub asked : before.out.asked ≡ loose.value.asked
    pub list : IsEndOf lists (poller_by pollers loose.value.number) before.out.list
    pub same_number : done.handler.number ≡ loose.value.number
    pub is : IsDoneBy acts answer after answers napi loose.value.has_thread loose.value.number before done
