-- How a receive side is closed at the end.
use Rattle.std.proofs.{Common.{◌≡◌, ◌∙◌, arith, ap, List, [], ◌∷◌, Option, Some, None, subst, sym}, lemmas.Grind.common_steps}
use Rattle.rx_ring.specs.declared.{ends.{RxCtx.RxCtx, RxIn.RxIn}, packet.Packet.Packet}
use Rattle.rx_ring.specs.{Ends.{IsOneRing, SameCtx, put_list, received_list, ring_name, ring_of}, ReceiveRing.totals_of}
use Rattle.napi_word.{specs.declared.table.Pass.Pass, proofs.Deliveries.some_is}
use Rattle.napi_calls.{proofs.Dealing.named_ring, specs.{Closed.IsClosed, Seats.instance_ring}}
use Rattle.device_shared.specs.{Callers.{IsFed, Same}, Ending.IsSideClosed, declared.closed_side.ClosedSide.ClosedSide}

-- the controller's context belongs to the ring of this end
pub ring_closed : (input : RxIn) (o : Option Pass) (p : Pass) (ctx own : RxCtx) → IsFed input o → Same o (Some p) → ctx ≡ own
    → instance_ring p ≡ Some (ring_name own) → IsOneRing input ctx
ring_closed input (Some q) p ctx own fed same is has =
    subst (IsOneRing input) (sym is) (named_ring input fed.0 own fed.2 (some_is (sym fed.1 ∙ sym same.ring ∙ has)))
ring_closed input None p ctx own fed same is has = absurd fed

module _ (end : ClosedSide) (ctx : RxCtx)
    (cl : IsClosed end.napi.value (end.interrupt.value ∷ end.poller.value ∷ end.thread.value ∷ []) end.control.value.pass ctx)
    (input : RxIn) (one : IsOneRing input ctx) (input' : RxIn) (last : RxCtx) (same : SameCtx ctx last)
    (put : put_list input' ≡ put_list input) (polled : received_list last ≡ put_list input)
    (are : end.totals ≡ totals_of (ring_of input' last)) where
  ring_is : ring_of input' last ≡ ring_of input last
  ring_is = ap (λ (l : List Packet). record { put = l; received = received_list last }) put

  none_left : end.totals.left ≡ 0
  none_left = grind (arith, common_steps, ring_is)

  pub side_closed : IsSideClosed end
  side_closed = record {
    ctx = ctx;
    closed = cl;
    input = input;
    one = one;
    last = last;
    same = same;
    polled = polled;
    totals_are = are ∙ ap totals_of ring_is;
    none_left = none_left;
  }
