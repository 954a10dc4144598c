use Rattle.std.proofs.Common.{◌∙◌, Some, true, ap, arith}
use Rattle.device_bench.specs.{DeviceView.DeviceView, Kept.is_sound, Waiting.waits_on_list}
use Rattle.device_bench.proofs.{BenchFacts.{kept-set, here-at, sound-at}, DeviceFacts.disable-keeps, Waiting.waiting-same}
use Rattle.device_places.proofs.PlaceFacts.{below-some}
use Rattle.device_bench.proofs.bench.DeviceBench.disable.Goals as goal

pub invariant_of-self-clause-kept : goal.invariant_of-self-clause-kept
invariant_of-self-clause-kept g c = λ x.
    let here = here-at c.args.self.now.devices.items c.args.device c.args.self.now.places (omega arith) c.index_mut.ensures.value
    c.in-Some.is in
    let keeps = disable-keeps c.in-Some.device (sound-at c.args.device (c.args.self.now.kept x) here) in
    kept-set c.args.self.now.unsettled true c.args.self.now.devices.items c.args.device c.disable.new.self (c.args.self.now.kept x)
    (below-some c.args.self.now.devices.items c.args.device c.in-Some.device here) (ap is_sound (c.disable.ensures x) ∙ keeps.sound)
    (λ off. cc off) (λ off. cc off)

pub returns-in-Some-clause-waiting : goal.returns-in-Some-clause-waiting
returns-in-Some-clause-waiting g c = λ x.
    let here = here-at c.args.self.now.devices.items c.args.device c.args.self.now.places (omega arith) c.index_mut.ensures.value
    c.in-Some.is in
    let keeps = disable-keeps c.in-Some.device (sound-at c.args.device (c.args.self.now.kept x) here) in
    waiting-same c.args.self.now.devices.items c.args.device c.in-Some.device c.disable.new.self here
    (ap (λ (d : DeviceView). waits_on_list (Some d)) (c.disable.ensures x) ∙ keeps.listed)
