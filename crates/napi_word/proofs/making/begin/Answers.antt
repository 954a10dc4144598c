use Rattle.std.proofs.{Common.{◌≡◌, ◌∷◌, ◌++◌, subst, Option, Some, None, [], ap, sym, ◌∙◌, unwrap_or}, lemmas.List.append-nil}
use Rattle.napi_word.specs.Slot.{Content, Carried, hold_of, owns_slot, ring_in, beside_in, ctx_in, carried_received}
use Rattle.{atomic_table.specs.Table.{Me, rest}, rx_ring.{proofs.Names.same_ring, specs.declared.ends.RxCtx.RxCtx}}
use Rattle.napi_word.proofs.{Deliveries.of_prefix, Said.one_there, Start.{begins, owns_at_start, slot_is}}
use Rattle.rx_ring.specs.Ends.{SameCtx, ring_name, received_list, known_list, polls_of}
use Rattle.napi_word.specs.{Knowledge.{Knowledge, is_pass, view_ring, received_in, Continues}, Rule.{begun_view, begun_slot, maker_at}}
use Rattle.napi_word.proofs.making.begin.Goals as goal

pub load-requires : goal.load-requires
load-requires c = (c.requires.table, one_there c.args.table.now, begins c.args.table.now.table.shared.key _ _ _ c.requires.first)

pub exchange-requires : goal.exchange-requires
exchange-requires c =
    let ring = c.args.table.now.table.shared.key.ring.value in
    let slot : c.load.new.seat.me.1 ≡ (0, Some ring) ∷ [] =
    c.load.ensures.2.1 ∙ ap (λ (m : Me Content Knowledge). begun_slot m.0) c.requires.first in
    (c.load.ensures.0 ∙ c.requires.table, (Some ring, slot ∙ ap (λ (l : Carried). (0, Some ring) ∷ l) (sym (ap rest slot))))

pub invariant_of-result : goal.invariant_of-result
invariant_of-result c =
    let key = c.args.table.now.table.shared.key in
    let ring = key.ring.value in
    let x : RxCtx = c.apart.new.self in
    let slot : c.load.new.seat.me.1 ≡ (0, Some ring) ∷ [] =
    c.load.ensures.2.1 ∙ ap (λ (m : Me Content Knowledge). begun_slot m.0) c.requires.first in
    let view : c.load.new.seat.me.0 ≡ maker_at key.controller ring 0 =
    c.load.ensures.2.0 ∙ ap (λ (m : Me Content Knowledge). begun_view m.0) c.requires.first in
    let was : Some c.in-Some.ctx ≡ Some ring =
    sym c.in-Some.is ∙ slot_is c.exchange.result (Some ring) (rest c.load.new.seat.me.1) [] (sym c.exchange.ensures.2 ∙ slot) in
    let one : c.exchange.new.seat.me ≡ (maker_at key.controller ring 0, (0, None) ∷ []) =
    c.exchange.ensures.3 ∙ (λ i. (view i, (0, None) ∷ rest (slot i))) in
    let is : c.exchange-2.new.seat.me ≡ (maker_at key.controller ring 0, (0, Some x) ∷ []) =
    c.exchange-2.ensures.3 ∙ (λ i. ((one i).0, (0, Some x) ∷ rest (one i).1)) in record {
      is_pass = ap (λ (m : Me Content Knowledge). is_pass m.0) is;
      marked = ap (λ (m : Me Content Knowledge). hold_of m.1) is;
      right = ap (λ (m : Me Content Knowledge). owns_slot m.0) is ∙ owns_at_start key.controller ring 0;
      ring = ap (λ (m : Me Content Knowledge). ring_in m.1 m.0) is
          ∙ ap Some (same_ring c.in-Some.ctx x c.apart.ensures.ring ∙ ap (λ (o : Option RxCtx). ring_name (unwrap_or o ring)) was)
          ∙ sym (ap (λ (m : Me Content Knowledge). view_ring m.0) is);
      unmarked = ap (λ (m : Me Content Knowledge). beside_in m.1) is ∙ c.apart.ensures.unmarked;
      received = subst (λ (m : Me Content Knowledge). Continues (received_in m.0) (carried_received m.1 m.0)) (sym is)
          (of_prefix (received_list ring ++ []) (received_list x) (
            [],
            append-nil (received_list ring ++ []) ∙ append-nil (received_list ring)
                ∙ sym (c.apart.ensures.received ∙ ap (λ (o : Option RxCtx). received_list (unwrap_or o ring)) was),
          ));
    }

pub returns-clause-stored : goal.returns-clause-stored
returns-clause-stored c =
    let ring = c.args.table.now.table.shared.key.ring.value in
    let slot : c.load.new.seat.me.1 ≡ (0, Some ring) ∷ [] =
    c.load.ensures.2.1 ∙ ap (λ (m : Me Content Knowledge). begun_slot m.0) c.requires.first in
    let was : Some c.in-Some.ctx ≡ Some ring =
    sym c.in-Some.is ∙ slot_is c.exchange.result (Some ring) (rest c.load.new.seat.me.1) [] (sym c.exchange.ensures.2 ∙ slot) in
    let same : c.in-Some.ctx ≡ ring = ap (λ (o : Option RxCtx). unwrap_or o ring) was in
    let e = c.apart.ensures in record {
      stored = c.apart.new.self;
      within = ap (λ (m : Me Content Knowledge). ctx_in m.1) c.exchange-2.ensures.3;
      ring = subst (λ (x : RxCtx). SameCtx x c.apart.new.self) same e.ring;
      received = e.received ∙ ap received_list same;
      known = e.known ∙ ap known_list same;
      polls = e.polls ∙ ap polls_of same;
      unmarked = e.unmarked;
    }
