use Rattle.std.proofs.Common.{◌≡◌, ℕ, ◌<◌, Option, Some, unwrap_or, List, [], ◌++◌, length, drop, refl, sym, ap, ◌∙◌, subst}
use Rattle.rx_ring.specs.{declared.packet.Packet.Packet, Ends.{RingName, ring_name, put_list, received_list}}
use Rattle.napi_word.{specs.Knowledge.{own_deliveries, packets_of}, proofs.Deliveries.of_prefix}
use Rattle.napi_calls.proofs.Dealing.{back_unpolled, delivers_before, delivers_behind, delivers_last, delivered_all, others, named_ring}
use Rattle.core_tests.proofs.dealing.deal.Goals as goal

pub finish-requires : goal.finish-requires
finish-requires g c =
    let fed = c.requires.input in
    let ctx = c.closed-ctx.result in
    let same : ring_name fed.0 ≡ ring_name ctx =
    ap (λ (o : Option RingName). unwrap_or o (ring_name ctx)) (sym fed.1 ∙ c.requires.first.ring) ∙ sym c.closed-ctx.ensures.ring in
    named_ring c.args.bed.input fed.0 ctx fed.2 same

pub returns : goal.returns
returns g c =
    let bed = c.args.bed in
    let closed = c.closed-ctx.ensures in
    let ds = closed.deliveries in
    let put = put_list bed.input in
    let got = received_list c.closed-ctx.result in
    let left = drop (length got) put in
    let two = c.both-first.ensures in
    let ends = c.release-first.ensures in
    let enabled = c.enable-control.ensures in
    let disabled = c.disable-control.ensures in
    let one_of =
    delivers_last c.both-first.result.0.1.items bed.first.pass c.both-first.result.0.0.pass c.release-first.result.pass
    (delivers_behind c.both-first.result.0.1.items bed.first.pass c.ask-first.result.pass c.both-first.result.0.0.pass
    c.ask-first.ensures.packets two.first.1) ends.packets in
    let controls =
    delivers_before [] bed.control.pass c.enable-control.result.pass c.disable-control.result.pass
    (back_unpolled bed.control.pass c.enable-control.result.pass bed.control.state.ctx bed.control.exact enabled.packets
    enabled.events.2.seat.number) disabled.packets.quiet in
    let none =
    delivered_all bed.napi 2 bed.control.pass c.disable-control.result.pass [] ds c.requires.control
    (disabled.events.2.seat.number ∙ enabled.events.2.seat.number) controls (closed.own_exact 2 c.disable-control.result.pass refl) in (
      left,
      record {
        deliveries = ds;
        whole = of_prefix got put c.finish.ensures.order
            ∙ ap (λ (l : List Packet). l ++ left) (closed.received ∙ ap (λ (l : List Packet). l ++ packets_of ds) c.requires.nothing);
        first_is =
            delivered_all bed.napi 0 bed.first.pass c.release-first.result.pass c.both-first.result.0.1.items ds c.requires.first
            (ends.seat.number ∙ two.first.0.number ∙ c.ask-first.ensures.seat.number) one_of
            (closed.own_exact 0 c.release-first.result.pass refl);
        second_is =
            delivered_all bed.napi 1 bed.second.pass c.both-first.result.1.0.pass c.both-first.result.1.1.items ds c.requires.second
            two.second.0.number two.second.1 (closed.own_exact 1 c.both-first.result.1.0.pass refl);
        others = others ds none (subst (λ (n : ℕ). (k : ℕ) → n < k → own_deliveries k ds ≡ []) bed.two closed.own_only);
      },
      ap (λ (t : _). t.left) c.finish.ensures.totals,
    )
