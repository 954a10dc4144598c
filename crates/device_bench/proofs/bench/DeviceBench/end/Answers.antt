use Rattle.std.proofs.Common.{◌∙◌, ℕ, None, Some, ap, refl, slice_set}
use Rattle.device_bench.proofs.EndingFacts.{ended-absent, ended-none, ended-present}
use Rattle.device_bench.proofs.bench.DeviceBench.end.Goals as goal

pub loop-place-init : goal.loop-place-init
loop-place-init g c =
    ended-none g.S.ReceiveSide.ended _ _ c.args.self.places c.default-ends.ensures.long
    (λ number below. c.default-ends.ensures.at number None below)

pub loop-place-preserved-in-Some-place : goal.loop-place-preserved-in-Some-place
loop-place-preserved-in-Some-place g c =
    ended-present g.S.ReceiveSide.ended _ _ _ c.in-Some.place _ _ c.in-Some.ensures.items c.loop-place.invariant c.in-Some-place.device
    c.end.result c.in-Some-place.is c.end.ensures
    (ap (λ (n : ℕ). slice_set c.loop-place.ends n (Some c.end.result)) (c.len.ensures ∙ c.pop.new.self.ok.0))

pub loop-place-preserved-in-Some-place-2 : goal.loop-place-preserved-in-Some-place-2
loop-place-preserved-in-Some-place-2 g c =
    ended-present g.S.ReceiveSide.ended _ _ _ c.in-Some.place _ _ c.in-Some.ensures.items c.loop-place.invariant c.in-Some-place.device
    c.end.result c.in-Some-place.is c.end.ensures
    (ap (λ (n : ℕ). slice_set c.loop-place.ends n (Some c.end.result)) (c.len.ensures ∙ c.pop.new.self.ok.0))

pub loop-place-preserved : goal.loop-place-preserved
loop-place-preserved g c =
    ended-absent g.S.ReceiveSide.ended _ _ _ c.in-Some.place _ _ c.in-Some.ensures.items c.loop-place.invariant c.in_default-place.is refl
