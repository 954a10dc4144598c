use Rattle.{std.{proofs.Common.{◌≡◌, true, ap, refl, sym, arith}, specs.Prelude.is_some}}
use Rattle.{device_bench.proofs.BenchFacts.{kept-changed, here-at}}
use Rattle.device_bench.proofs.{BenchFacts.sound-at, DeviceFacts.once-keeps, InstanceFacts.{polled-once-if}, SideFacts.sides-set}
use Rattle.device_bench.proofs.Waiting.{waiting-less}
use Rattle.device_bench.proofs.bench.DeviceBenchBench.poll_once.Goals as goal

pub invariant_of-self-clause-kept : goal.invariant_of-self-clause-kept
invariant_of-self-clause-kept g c = λ x.
    let here = here-at c.args.self.now.devices.items c.args.id c.args.self.now.places (omega arith) c.index_mut.ensures.value c.in-Some.is
    in
    let is = polled-once-if g.S.ReceiveSide.exact c.args.weight c.in-Some.device _ _ x c.poll_once_of.ensures.does.1 in
    let keeps = once-keeps c.args.weight c.in-Some.device (sound-at c.args.id (c.args.self.now.kept x) here) in
    kept-changed c.args.id (c.args.self.now.kept x) here is.1 keeps.sound keeps.pending

pub returns-in-Some-clause-leads : goal.returns-in-Some-clause-leads
returns-in-Some-clause-leads g c =
    let here = here-at c.args.self.now.devices.items c.args.id c.args.self.now.places (omega arith) c.index_mut.ensures.value c.in-Some.is
    in
    let is = λ (x : g.S.ReceiveSide.exact ≡ true). polled-once-if g.S.ReceiveSide.exact c.args.weight c.in-Some.device _ _ x
    c.poll_once_of.ensures.does.1 in
    record {
      exact = λ x. (rw here (is x).0, rw (here, (is x).1) refl);
      transmits = λ all shown. record { sides = shown.sides; each = sides-set _ all c.args.id _ (ap is_some (sym here)) shown.each };
      waits = λ x.
          let keeps = once-keeps c.args.weight c.in-Some.device (sound-at c.args.id (c.args.self.now.kept x) here) in
          waiting-less c.args.self.now.devices.items c.args.id _ c.in-Some.device c.poll_once_of.new.instance here
          (rw ((is x).1, (is x).0) keeps.listed);
    }
