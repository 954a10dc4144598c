use Rattle.std.proofs.{Common.{◌≡◌, ◌∙◌, ◌+◌, ◌-◌, ℕ, suc, ap, slice_index_or, drop, sym, refl, arith}, Math.Seq.drop-cons}
use Rattle.{std.proofs.lemmas.{Bool.{le-leb, lt-leb}, List.drop_all}, machine_model.specs.Waits.first_with}
use Rattle.machine_model.proofs.waits.first_with.Goals as goal

pub returns-then-rank-count-clause-bucket : goal.returns-then-rank-count-clause-bucket
unfolding first_with
returns-then-rank-count-clause-bucket c =
    let cut = drop-cons c.args.buckets.now c.loop-bucket.bucket 0 c.loop-bucket-test.true in
    sym (c.loop-bucket.invariant ∙ (rw (cut, le-leb _ _ c.if-rank-count.true) refl))

pub loop-bucket-preserved : goal.loop-bucket-preserved
unfolding first_with
loop-bucket-preserved c =
    let cut = drop-cons c.args.buckets.now c.loop-bucket.bucket 0 c.loop-bucket-test.true in
    let next : c.loop-bucket.bucket + 1 ≡ suc c.loop-bucket.bucket = omega arith in
    let left = c.loop-bucket.rank - slice_index_or c.args.buckets.now c.loop-bucket.bucket 0 in
    c.loop-bucket.invariant ∙ (rw (cut, lt-leb _ _ c.if-rank-count.false)
    (ap (λ (n : ℕ). first_with left (c.loop-bucket.bucket + 1) (drop n c.args.buckets.now)) (sym next)))

pub returns-clause-bucket : goal.returns-clause-bucket
unfolding first_with
returns-clause-bucket c =
    sym (c.loop-bucket.invariant ∙ (rw (drop_all c.loop-bucket.bucket c.args.buckets.now c.loop-bucket-test.false) refl))
