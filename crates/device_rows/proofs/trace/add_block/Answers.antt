use Rattle.std.proofs.Common.{◌∙◌, refl}
use Rattle.device_rows.proofs.trace.add_block.Goals as goal

pub loop-init : goal.loop-init
loop-init g c = record { so_far = c.requires; same = λ bytes holds. (bytes, holds, refl) }

pub loop-preserved : goal.loop-preserved
loop-preserved g c = record {
  so_far = c.add_held.ensures.so_far;
  same = λ bytes start.
      let (left, holds, so_far) = c.loop.invariant.same bytes start in
      let (rest, stands, step) = c.add_held.ensures.same left holds in
      (rest, c.in_ok-refill.ensures.holds rest stands, so_far ∙ step);
}

pub returns-then-has_line-clause-same : goal.returns-then-has_line-clause-same
returns-then-has_line-clause-same g c bytes start =
    let (left, holds, so_far) = c.loop.invariant.same bytes start in
    let (rest, stands, step) = c.add_held.ensures.same left holds in
    (rest, stands, so_far ∙ step)

pub returns-then-not-branch-clause-same : goal.returns-then-not-branch-clause-same
returns-then-not-branch-clause-same g c bytes start =
    let (left, holds, so_far) = c.loop.invariant.same bytes start in
    let (rest, stands, step) = c.add_held.ensures.same left holds in
    (rest, c.in_ok-refill.ensures.holds rest stands, so_far ∙ step)
