use Rattle.std.proofs.Common.{◌∙◌, Some, ap, arith}
use Rattle.device_bench.specs.{DeviceView.DeviceView, Waiting.waits_on_list}
use Rattle.device_bench.proofs.{BenchFacts.{kept-changed, here-at, sound-at}, DeviceFacts.enable-keeps, Waiting.waiting-same}
use Rattle.device_bench.proofs.bench.DeviceBench.enable.Goals as goal

pub invariant_of-self-clause-kept : goal.invariant_of-self-clause-kept
invariant_of-self-clause-kept g c = λ x.
    let here = here-at c.args.self.now.devices.items c.args.device c.args.self.now.places (omega arith) c.index_mut.ensures.value
    c.in-Some.is in
    let keeps = enable-keeps c.in-Some.device (sound-at c.args.device (c.args.self.now.kept x) here) in
    kept-changed c.args.device (c.args.self.now.kept x) here (c.enable.ensures x) keeps.sound keeps.pending

pub returns-in-Some-clause-waiting : goal.returns-in-Some-clause-waiting
returns-in-Some-clause-waiting g c = λ x.
    let here = here-at c.args.self.now.devices.items c.args.device c.args.self.now.places (omega arith) c.index_mut.ensures.value
    c.in-Some.is in
    let keeps = enable-keeps c.in-Some.device (sound-at c.args.device (c.args.self.now.kept x) here) in
    waiting-same c.args.self.now.devices.items c.args.device c.in-Some.device c.enable.new.self here
    (ap (λ (d : DeviceView). waits_on_list (Some d)) (c.enable.ensures x) ∙ omega (arith, keeps.listed))
