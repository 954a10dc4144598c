-- What a closed instance implies for the calls made on it, and for its ring.
use Rattle.napi_word.specs.{Knowledge.{deliverers, own_deliveries, packets_of}, Slot.givers}
use Rattle.poll_engine.specs.{Closings.{IsClosedAs, seats_in}, Runs.{IsEnded, controller_number}, declared.station.Closed.Closed}
use Rattle.napi_calls.specs.{Closed.IsHistoryOf, Instance.{callers_of, first_of_instance}}
use Rattle.std.proofs.Common.{◌≡◌, ℕ, ◌<◌, ◌≤◌, List, [], ◌++◌, ap, ◌∙◌, arith, length, subst, sym}
use Rattle.napi_model.specs.Step.{opening}
use Rattle.rx_ring.specs.{declared.ends.RxIn.RxIn, declared.ends.RxCtx.RxCtx, declared.packet.Packet.Packet}
use Rattle.rx_ring.specs.{declared.packet.Totals.Totals, ReceiveRing.{IsInOrder, held_of, totals_of}}
use Rattle.rx_ring.specs.Ends.{IsOneRing, Meets, capacity_of, end_of, put_list, received_list, ring_of}
use mathlib.Core.List.{IsPrefix}

pub ended_of : (closed : Closed) (rx : RxIn) (ctx : RxCtx) (totals : Totals) → callers_of closed.napi.value ≡ controller_number
    → received_list (first_of_instance closed.napi.value) ≡ [] → IsClosedAs closed ctx → totals ≡ totals_of (ring_of rx ctx)
    → IsInOrder (ring_of rx ctx)
    → IsEnded closed (put_list rx) totals
ended_of closed rx ctx totals three nothing was are in_order =
    let received : received_list ctx ≡ packets_of was.deliveries = was.received ∙ ap (λ l. l ++ packets_of was.deliveries) nothing in
    record {
      history = was.history;
      is = subst (λ k. IsHistoryOf k (seats_in closed) was.history) three was.is;
      deliveries = was.deliveries;
      deliverers_are = subst (λ k. deliverers was.deliveries ≡ givers (opening k) was.history) three was.order;
      in_order = subst (λ (l : List Packet). IsPrefix l (put_list rx)) received in_order;
      own_exact = was.own_exact;
      own_only = subst (λ k. (c : ℕ) → k < c → own_deliveries c was.deliveries ≡ []) three was.own_only;
      totals_are = are ∙ ap (λ (l : List Packet). totals_of (record { put = put_list rx; received = l })) received;
    }

-- if the ends of a ring have met, it holds at most its capacity
pub few_held : (rx rx_after : RxIn) (ctx ctx_after : RxCtx) → IsOneRing rx ctx → Meets rx ctx rx_after ctx_after
    → length (held_of (ring_of rx ctx)) ≤ capacity_of rx
few_held rx rx_after ctx ctx_after one met =
    let consumer = (end_of ctx_after).consumer in
    let places : consumer.capacity ≡ capacity_of rx =
    consumer.reads.2 ∙ ap (λ names. names.0) (met.same_ctx.0.2 ∙ one.2) ∙ sym rx.producer.writes.2 in
    let known = ap (λ l. length l) met.known in
    let few = consumer.counts in
    omega (arith, places, known, few)
