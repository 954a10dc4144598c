use Rattle.std.proofs.Common.{◌≡◌, ◌∙◌, ◌<◌, Some, None, ap, length, refl, sym, arith}
use Rattle.{device_places.specs.Places.at, device_places.proofs.PlaceFacts.{at-index, none-of}}
use Rattle.{device_bench.proofs.{BenchFacts.kept-opened, Waiting.waiting-added}, device_bench.specs.DeviceView.DeviceView}
use Rattle.device_bench.proofs.bench.DeviceBench.keep.Goals as goal

pub invariant_of-self-clause-kept : goal.invariant_of-self-clause-kept
invariant_of-self-clause-kept g c = λ x.
    let below : c.args.device < length c.args.self.now.devices.items = omega (arith, c.args.self.now.places, c.requires.device.1) in
    let is = c.put_back.ensures ∙ ap (λ (d : DeviceView). Some d) (c.new-opened.ensures c.args.capacity (c.in_ok-open.ensures x)) in
    rw is (kept-opened _ _ c.args.device c.args.capacity (c.args.self.now.kept x) below)

pub returns-clause-devices : goal.returns-clause-devices
returns-clause-devices g c = λ x.
    let below : c.args.device < length c.args.self.now.devices.items = omega (arith, c.args.self.now.places, c.requires.device.1) in
    let here : at c.args.device c.args.self.now.devices.items ≡ None =
    at-index _ c.args.device _ below (sym c.index.ensures) ∙ none-of _ (sym c.is_some.ensures ∙ c.if-is_some.false) in
    let is = c.put_back.ensures ∙ ap (λ (d : DeviceView). Some d) (c.new-opened.ensures c.args.capacity (c.in_ok-open.ensures x)) in
    rw (is, here) refl

pub returns-clause-waiting : goal.returns-clause-waiting
returns-clause-waiting g c = λ x.
    let below : c.args.device < length c.args.self.now.devices.items = omega (arith, c.args.self.now.places, c.requires.device.1) in
    let here : at c.args.device c.args.self.now.devices.items ≡ None =
    at-index _ c.args.device _ below (sym c.index.ensures) ∙ none-of _ (sym c.is_some.ensures ∙ c.if-is_some.false) in
    let is = c.put_back.ensures ∙ ap (λ (d : DeviceView). Some d) (c.new-opened.ensures c.args.capacity (c.in_ok-open.ensures x)) in
    rw is (waiting-added c.args.self.now.devices.items c.args.device c.args.capacity below here)
