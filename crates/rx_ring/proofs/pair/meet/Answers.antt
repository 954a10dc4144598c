use Rattle.std.proofs.Common.{◌≡◌, ◌++◌, List, length, refl, sym, ap, ◌∙◌, arith, length-append}
use Rattle.{rtrb.specs.Ring.{sent, received, known_items}, rx_ring.{specs.declared.packet.Packet.Packet, proofs.Places.known_all}}
use lib.ListN.{length-drop}
use Rattle.rx_ring.proofs.pair.meet.Goals as goal

pub returns : goal.returns
returns c =
    let free = c.slots_beside.ensures in
    let known = c.slots_beside-2.ensures in
    let put : sent c.slots_beside-2.new.producer ≡ sent c.args.input.now.producer = known.producer.1 ∙ free.looked.1 in
    let got : received c.slots_beside-2.new.self ≡ received c.args.end.now.consumer = known.looked.1 ∙ free.consumer.1 in
    let fifo = ap (λ (l : List Packet). l ++ known_items c.slots_beside-2.new.self) (sym got) ∙ known.fifo ∙ put in
    let a = free.looked.0 in
    let b = known.producer.0 in
    let d = free.consumer.0 in
    let e = known.looked.0 in
    let held = length-drop (length (received c.args.end.now.consumer)) (sent c.args.input.now.producer) in
    let whole = ap length fifo in
    let sum = length-append (received c.args.end.now.consumer) (known_items c.slots_beside-2.new.self) in record {
      same_input = ((b.0.0 ∙ a.0.0, b.0.1 ∙ a.0.1, b.0.2 ∙ a.0.2, b.0.3 ∙ a.0.3), b.1 ∙ a.1);
      same_ctx = ((e.0.0 ∙ d.0.0, e.0.1 ∙ d.0.1, e.0.2 ∙ d.0.2, e.0.3 ∙ d.0.3), e.1 ∙ d.1);
      same_lists = λ i. record { put = put i; received = got i };
      order = (known_items c.slots_beside-2.new.self, fifo);
      known = known_all _ _ _ fifo;
      free = omega (
        arith,
        held,
        whole,
        sum,
        free.all_free,
        free.value,
        known.producer.2,
        ap length free.looked.1,
        ap length
            free.consumer.1,
        a.1,
      );
      polls = refl;
      marked = refl;
    }
