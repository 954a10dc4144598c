use Rattle.std.proofs.Common.{◌∙◌, Some, ap, sym, arith}
use Rattle.device_bench.specs.{DeviceView.DeviceView, Waiting.waits_on_list}
use Rattle.device_bench.proofs.{BenchFacts.{kept-changed, here-at, sound-at}, DeviceFacts.packet-keeps, Waiting.waiting-more}
use Rattle.device_bench.proofs.bench.DeviceBench.arrive.Goals as goal

pub invariant_of-self-clause-kept : goal.invariant_of-self-clause-kept
invariant_of-self-clause-kept g c = λ x.
    let here = here-at c.args.self.now.devices.items c.args.device c.args.self.now.places (omega arith) c.index_mut.ensures.value
    c.in-Some.is in
    let keeps = packet-keeps c.args.bytes c.in-Some.device (sound-at c.args.device (c.args.self.now.kept x) here) in
    kept-changed c.args.device (c.args.self.now.kept x) here (c.arrive.ensures.device x) keeps.sound keeps.pending

pub returns-in-Some-clause-waiting : goal.returns-in-Some-clause-waiting
returns-in-Some-clause-waiting g c = λ x.
    let here = here-at c.args.self.now.devices.items c.args.device c.args.self.now.places (omega arith) c.index_mut.ensures.value
    c.in-Some.is in
    let keeps = packet-keeps c.args.bytes c.in-Some.device (sound-at c.args.device (c.args.self.now.kept x) here) in
    waiting-more c.args.self.now.devices.items c.args.device _ c.in-Some.device c.arrive.new.self here
    (rw (c.arrive.ensures.kind x) keeps.listed ∙ sym (ap (λ (d : DeviceView). waits_on_list (Some d)) (c.arrive.ensures.device x)))
