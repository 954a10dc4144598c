-- The callers with which an instance was closed.
use Rattle.std.specs.Prelude.{◌≡◌, List, [], ◌∷◌, ◌++◌}
use Rattle.{rx_ring.specs.declared.ends.RxCtx.RxCtx, napi_word.specs.declared.table.Pass.Pass}
use Rattle.napi_calls.specs.{declared.types.Caller.Caller, Closed.{IsClosed, seats_of}}
use Rattle.poll_engine.specs.{declared.station.Closed.Closed, declared.worker.WorkerHandles.WorkerHandles}
use Rattle.poll_engine.specs.declared.worker.ControllerState.TheVariants.{Off}

-- its three callers: the worker's, the poller's and its own thread's
abbrev pub callers_in : Closed → List Caller
callers_in closed = closed.worker.value ∷ closed.poller.value ∷ closed.thread.value ∷ []

-- the passes of these callers and then the controller's
abbrev pub seats_in : Closed → List Pass
seats_in closed = seats_of (callers_in closed) ++ closed.control.value.pass ∷ []

-- the instance was closed with these callers and this controller
pub record IsCallersOf (handles : WorkerHandles) (poller thread : Caller) (closed : Closed) : Type 0 where
  pub worker_is : closed.worker.value ≡ handles.caller
  pub poller_is : closed.poller.value ≡ poller
  pub thread_is : closed.thread.value ≡ thread
  pub control_is : handles.control ≡ Off closed.control.value

-- it was closed, and returned this context
abbrev pub IsClosedAs : Closed → RxCtx → Type 0
IsClosedAs closed ctx = IsClosed closed.napi.value (callers_in closed) closed.control.value.pass ctx
