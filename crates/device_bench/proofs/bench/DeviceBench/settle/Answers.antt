use Rattle.std.proofs.Common.{◌∙◌, ap, refl, sym, arith}
use Rattle.device_bench.{specs.Waiting.waiting, proofs.BenchFacts.{beyond, settled-all}}
use Rattle.device_bench.proofs.{BenchFacts.{settled-more, settled-none, settled-off, up-to}}
use Rattle.device_bench.proofs.{Waiting.waiting-settled, bench.DeviceBench.settle.Goals.{then-settle_one, else-settle_one}}
use Rattle.device_bench.proofs.bench.DeviceBench.settle.Goals as goal

pub returns-then-not-self-clause-devices : goal.returns-then-not-self-clause-devices
returns-then-not-self-clause-devices g c = λ x. sym (settled-off _ _ (c.args.self.now.kept x) c.if-not-self.true)

pub loop-device-init : goal.loop-device-init
loop-device-init g c = record {
  devices = λ x. sym (settled-none _);
  places = λ number. refl;
  transmits = refl;
  marked = c.if-not-self.false;
  pending = λ x off number below. absurd (omega (arith, below));
}

pub loop-device-preserved : goal.loop-device-preserved
loop-device-preserved g c = record {
  devices =
      λ x. c.settle_one.ensures.devices x ∙ settled-more c.loop-device.device _ _
      (omega (arith, c.args.self.now.places, c.loop-device-test.true)) (c.loop-device.invariant.devices x);
  places = λ number. c.settle_one.ensures.places number ∙ c.loop-device.invariant.places number;
  transmits = c.settle_one.ensures.transmits ∙ c.loop-device.invariant.transmits;
  marked = c.settle_one.ensures.unsettled ∙ c.loop-device.invariant.marked;
  pending = λ x off number below.
      elim c.if-settle_one.branch [
        | then-settle_one w ↦ cc (sym w.unsettled-is ∙ off)
        | else-settle_one w ↦
            up-to c.loop-device.device number c.loop-device.self.devices.items c.settle_one.new.self.devices.items
            (c.settle_one.ensures.devices x)
            (sym c.settle_one.ensures.pending ∙ w.if-settle_one.false) (c.loop-device.invariant.pending x (sym w.unsettled-is ∙ off)) below
      ];
}

pub returns-clause-devices : goal.returns-clause-devices
returns-clause-devices g c = λ x. c.loop-device.invariant.devices x
    ∙ settled-all c.loop-device.device _ (omega (arith, c.args.self.now.places, c.loop-device-test.false))

pub invariant_of-self-clause-kept : goal.invariant_of-self-clause-kept
invariant_of-self-clause-kept g c = λ x. record {
  places = c.loop-device.self.places;
  sound = (c.loop-device.self.kept x).sound;
  few = (c.loop-device.self.kept x).few;
  settled =
      λ off. beyond c.loop-device.device c.loop-device.self.devices.items
      (omega (arith, c.loop-device.self.places, c.loop-device-test.false)) (c.loop-device.invariant.pending x off);
}

pub returns-clause-waiting : goal.returns-clause-waiting
returns-clause-waiting g c = λ x. ap waiting (returns-clause-devices g c x) ∙ waiting-settled _ _ (c.args.self.now.kept x)

pub returns-clause-transmits : goal.returns-clause-transmits
returns-clause-transmits g c all shown = record {
  sides = rw c.loop-device.invariant.transmits shown.sides;
  each = λ number. shown.each number ∙ sym (c.loop-device.invariant.places number);
}
