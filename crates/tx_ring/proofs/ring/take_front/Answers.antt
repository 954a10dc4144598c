use Rattle.std.proofs.{Common.{◌≡◌, ◌+◌, sum, drop, arith, ap, ◌∙◌}, lemmas.List.drop-drop}
use Rattle.tx_ring.proofs.Sums.{sum_front}
use Rattle.tx_ring.proofs.ring.take_front.Goals as goal

pub loop-preserved : goal.loop-preserved
loop-preserved c =
    let first : c.in-Some.size + sum (drop 1 c.loop.sizes.items) ≡ sum c.loop.sizes.items =
    sum_front c.loop.sizes.items c.in-Some.size c.in-Some.ensures.value in
    let items : c.pop_front.new.self.items ≡ drop 1 c.loop.sizes.items = ap (λ b. b.items) c.in-Some.ensures.items in
    let rest : sum c.pop_front.new.self.items ≡ sum (drop 1 c.loop.sizes.items) = ap sum items in
    let parts = c.loop.invariant.parts in
    record {
      parts = omega arith;
      rest = items ∙ ap (drop 1) c.loop.invariant.rest ∙ drop-drop 1 c.loop.counter c.args.sizes.now.items;
      room = ap (λ b. b.capacity) c.in-Some.ensures.items ∙ c.loop.invariant.room;
    }
