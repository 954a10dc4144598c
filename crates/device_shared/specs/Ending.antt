-- How a receive side (a ring and its instance) is closed, if its instance could be shared by threads.
use Rattle.std.specs.Prelude.{◌≡◌, [], ◌∷◌}
use Rattle.rx_ring.specs.declared.ends.{RxCtx.RxCtx, RxIn.RxIn}
use Rattle.rx_ring.specs.{Ends.{IsOneRing, SameCtx, put_list, received_list, ring_of}, ReceiveRing.totals_of}
use Rattle.napi_calls.specs.Closed.{IsClosed}
use Rattle.device_shared.specs.declared.closed_side.ClosedSide.{ClosedSide}

-- The instance of a receive side was closed, with these callers: there is exactly one legal history of all their calls. All
-- packets that were put into its ring were polled, in order, each once.
pub record IsSideClosed (end : ClosedSide) : Type 0 where
  pub ctx : RxCtx
  pub closed : IsClosed end.napi.value (end.interrupt.value ∷ end.poller.value ∷ end.thread.value ∷ []) end.control.value.pass ctx
  -- the ring's input end, by which its packets were put
  pub input : RxIn
  pub one : IsOneRing input ctx
  -- the poll context, which has received all packets that were put
  pub last : RxCtx
  pub same : SameCtx ctx last
  pub polled : received_list last ≡ put_list input
  pub totals_are : end.totals ≡ totals_of (ring_of input last)
  pub none_left : end.totals.left ≡ 0
