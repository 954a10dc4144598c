use Rattle.std.proofs.Common.{◌≡◌, ◌∙◌, ap, arith, length, refl, rules}
use Rattle.rx_ring.specs.{declared.packet.Totals.Totals, Ends.{IsOneRing, received_list, ring_of}, ReceiveRing.totals_of}
use Rattle.napi_calls.specs.{declared.types.Napi.Napi, Instance.{callers_of, first_of_instance}}
use Rattle.poll_engine.proofs.EndSideFacts.{ended_of, few_held}
use Rattle.poll_engine.proofs.setup.opening.end.Goals as goal

pub returns : goal.returns
returns g c =
    let home = c.requires.home in
    let made = c.close-closed.ensures in
    let ctx = c.close-closed.result.1 in
    let met = c.beside.ensures in
    let all = c.finish-totals.ensures in
    let totals : c.finish-totals.result ≡ totals_of (ring_of c.args.loose.rx ctx) = all.totals ∙ ap totals_of met.same_lists in
    let same = ap (λ r. length r.put) met.same_lists in
    let left = ap (λ (t : Totals). t.left) totals in
    let one : IsOneRing c.args.loose.rx ctx = search rules in
    let few = few_held c.args.loose.rx c.beside.new.input ctx c.beside.new.ctx one met in
    record {
      same_number = refl;
      same_device = refl;
      same_asked = refl;
      put = ap (λ (t : Totals). t.put) totals;
      bytes = ap (λ (t : Totals). t.bytes) totals;
      sum = λ small. all.sum (omega (arith, small, same));
      few = omega (arith, left, few);
      of = made.of;
      ended = ended_of c.close-closed.result.0 c.args.loose.rx ctx c.finish-totals.result
          (ap (λ (n : Napi). callers_of n) made.napi ∙ home.callers)
          (ap (λ (n : Napi). received_list (first_of_instance n)) made.napi ∙ home.nothing_received) made.closed totals met.order;
    }
