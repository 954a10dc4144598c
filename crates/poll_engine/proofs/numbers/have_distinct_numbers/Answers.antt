use Rattle.std.proofs.Common.{◌∙◌, ap, sym, refl, arith}
use Rattle.poll_engine.specs.Numbers.{have_distinct_numbers}
use Rattle.poll_engine.proofs.numbers.have_distinct_numbers.Goals as goal

pub loop-preserved : goal.loop-preserved
loop-preserved g c =
    let parts = c.in-Some.ensures.cases in
    record {
      same = c.loop.invariant.same ∙ ap (λ stations. have_distinct_numbers stations) parts.0
          ∙ rw (sym c.is_among.ensures ∙ c.if-is_among.false) refl;
      left = omega (arith, parts.1, c.loop.invariant.left);
    }
