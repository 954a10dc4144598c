use Rattle.std.proofs.Common.{[], ap, subst, ◌∙◌, sym}
use Rattle.{atomic_table.specs.Table.Me, napi_word.specs.Knowledge.{Knowledge, is_pass, view_ring}}
use Rattle.napi_word.specs.Knowledge.{received_in, Continues}
use Rattle.napi_word.specs.Slot.{Content, hold_of, owns_slot, ring_in, beside_in, ctx_in, carried_received}
use Rattle.napi_word.{specs.Rule.{left_of, right_of}, proofs.{Deliveries.{prefix_self, of_prefix}, Said.one_there, Start.maker_more}}
use Rattle.napi_word.proofs.{Start.owns_nothing, Splitting.gives_number}
use Rattle.napi_word.proofs.making.next_pass.Goals as goal

pub split_seat-requires : goal.split_seat-requires
split_seat-requires c =
    let key = c.args.table.now.table.shared.key in
    let more = maker_more key.controller key.ring.value c.args.number c.requires.number in
    (c.requires.table, one_there c.args.table.now, gives_number key _ _ _ _ _ (c.requires.view ∙ more) c.args.maker.now.is_pass)

pub invariant_of-result : goal.invariant_of-result
invariant_of-result c =
    let key = c.args.table.now.table.shared.key in
    let more = maker_more key.controller key.ring.value c.args.number c.requires.number in
    let is = c.split_seat.ensures.4 ∙ ap (λ (v : Knowledge). (right_of v, [])) (c.requires.view ∙ more) in record {
      is_pass = ap (λ (m : Me Content Knowledge). is_pass m.0) is;
      marked = ap (λ (m : Me Content Knowledge). hold_of m.1) is;
      right = ap (λ (m : Me Content Knowledge). owns_slot m.0) is
          ∙ owns_nothing key.controller key.ring.value c.args.number c.requires.number;
      ring = ap (λ (m : Me Content Knowledge). ring_in m.1 m.0) is ∙ sym (ap (λ (m : Me Content Knowledge). view_ring m.0) is);
      unmarked = ap (λ (m : Me Content Knowledge). beside_in m.1) is;
      received =
          subst (λ (m : Me Content Knowledge). Continues (received_in m.0) (carried_received m.1 m.0)) (sym is)
          (of_prefix _ _ (prefix_self _));
    }

pub returns-clause-view : goal.returns-clause-view
returns-clause-view c =
    let key = c.args.table.now.table.shared.key in
    let more = maker_more key.controller key.ring.value c.args.number c.requires.number in
    ap (λ (m : Me Content Knowledge). m.0) c.split_seat.ensures.2 ∙ ap left_of (c.requires.view ∙ more)

pub returns-clause-slot : goal.returns-clause-slot
returns-clause-slot c = ap (λ (m : Me Content Knowledge). ctx_in m.1) c.split_seat.ensures.2
