use Rattle.std.proofs.{Common.{rules, ◌≡◌, ◌∷◌, ◌++◌, [], length, take, sym, ap, ◌∙◌, arith}, lemmas.{Grind.common_steps, List.append-nil}}
use Rattle.rtrb.specs.Ring.{received, known_items}
use Rattle.rx_ring.specs.ReceiveRing.{bytes_of}
use Rattle.rx_ring.proofs.Only.{set_only}
use Rattle.rx_ring.proofs.ends.take_known.Goals as goal

pub returns-then-packets-eq1-clause-taken : goal.returns-then-packets-eq1-clause-taken
returns-then-packets-eq1-clause-taken c =
    let n : length c.args.packets.now ≡ 1 = grind (arith, common_steps) in
    let known = known_items c.args.consumer.now in
    set_only c.args.packets.now c.pop_known-packet.result n
    ∙ sym (ap (λ i. take i known) n ∙ ap (λ l. take 1 l) c.pop_known-packet.ensures.received.1)

pub returns-then-packets-eq1-clause-received : goal.returns-then-packets-eq1-clause-received
returns-then-packets-eq1-clause-received c =
    let n : length c.args.packets.now ≡ 1 = grind (arith, common_steps) in
    let e = set_only c.args.packets.now c.pop_known-packet.result n in
    c.pop_known-packet.ensures.received.0 ∙ ap (λ l. received c.args.consumer.now ++ l) (sym e)

pub returns-then-packets-eq1-clause-known : goal.returns-then-packets-eq1-clause-known
returns-then-packets-eq1-clause-known c =
    let n : length c.args.packets.now ≡ 1 = grind (arith, common_steps) in
    let e = set_only c.args.packets.now c.pop_known-packet.result n in (
      [],
      append-nil (known_items c.args.consumer.now) ∙ c.pop_known-packet.ensures.received.1
          ∙ ap (λ l. l ++ known_items c.pop_known-packet.new.self) (sym e),
    )

pub returns-then-packets-eq1-clause-bytes : goal.returns-then-packets-eq1-clause-bytes
returns-then-packets-eq1-clause-bytes c =
    let n : length c.args.packets.now ≡ 1 = grind (arith, common_steps) in
    let e = set_only c.args.packets.now c.pop_known-packet.result n in
    let one : c.from.result ≡ bytes_of (c.pop_known-packet.result ∷ []) = search rules in one ∙ sym (ap bytes_of e)
