use Rattle.std.proofs.Common.{◌∙◌, ap, sym, arith}
use Rattle.std.specs.Prelude.{is_some}
use Rattle.device_bench.proofs.SideFacts.{some-set}
use Rattle.device_bench.{specs.{Device.is_pending, Kept.is_sound}, proofs.BenchFacts.kept-set}
use Rattle.device_bench.proofs.{BenchFacts.{pending-off, here-at, sound-at}, DeviceFacts.{settle-keeps, settled-same}}
use Rattle.device_places.proofs.PlaceFacts.{below-some}
use Rattle.device_bench.proofs.bench.DeviceBench.settle_one.Goals as goal

pub invariant_of-self-clause-kept : goal.invariant_of-self-clause-kept
invariant_of-self-clause-kept g c = λ x.
    let here = here-at c.args.self.now.devices.items c.args.device c.args.self.now.places (omega arith) c.index_mut.ensures.value
    c.in-Some.is in
    let keeps = settle-keeps c.in-Some.device (sound-at c.args.device (c.args.self.now.kept x) here) in
    kept-set c.args.self.now.unsettled c.args.self.now.unsettled c.args.self.now.devices.items c.args.device c.settle.new.self
    (c.args.self.now.kept x) (below-some c.args.self.now.devices.items c.args.device c.in-Some.device here)
    (ap is_sound (c.settle.ensures.device x) ∙ keeps.sound) (λ off. off) (λ off.
    let was = pending-off c.args.device (c.args.self.now.kept x) here off in
    ap is_pending ((c.settle.ensures.device x) ∙ settled-same _ was) ∙ was)

pub returns-in-Some-clause-places : goal.returns-in-Some-clause-places
returns-in-Some-clause-places g c number =
    let here = here-at c.args.self.now.devices.items c.args.device c.args.self.now.places (omega arith) c.index_mut.ensures.value
    c.in-Some.is in
    some-set c.args.self.now.devices.items c.args.device number _ (ap is_some (sym here))
