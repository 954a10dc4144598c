use Rattle.{std.{proofs.Common.{◌≡◌, true, ap, refl, sym, arith}, specs.Prelude.is_some}}
use Rattle.{device_bench.proofs.BenchFacts.{kept-changed, here-at}}
use Rattle.device_bench.proofs.{BenchFacts.sound-at, DeviceFacts.busy-keeps, SideFacts.sides-set, Waiting.waiting-more}
use Rattle.device_bench.proofs.InstanceFacts.{polled-busily-if}
use Rattle.device_bench.proofs.bench.DeviceBenchBench.busy_poll.Goals as goal

pub invariant_of-self-clause-kept : goal.invariant_of-self-clause-kept
invariant_of-self-clause-kept g c = λ x.
    let here = here-at c.args.self.now.devices.items c.args.id c.args.self.now.places (omega arith) c.index_mut.ensures.value c.in-Some.is
    in
    let is = polled-busily-if g.S.ReceiveSide.exact c.args.rounds c.args.weight c.in-Some.device _ _ x c.poll_busy_of.ensures.does.1 in
    let keeps = busy-keeps c.args.weight c.args.rounds c.in-Some.device (sound-at c.args.id (c.args.self.now.kept x) here) in
    kept-changed c.args.id (c.args.self.now.kept x) here is.1 keeps.sound keeps.pending

pub returns-in-Some : goal.returns-in-Some
returns-in-Some g c =
    let here = here-at c.args.self.now.devices.items c.args.id c.args.self.now.places (omega arith) c.index_mut.ensures.value c.in-Some.is
    in
    let is = λ (x : g.S.ReceiveSide.exact ≡ true). polled-busily-if g.S.ReceiveSide.exact c.args.rounds c.args.weight c.in-Some.device _ _
    x c.poll_busy_of.ensures.does.1 in
    record {
      leads = record {
        exact = λ x. (rw (here, (is x).0) refl, rw (here, (is x).1) refl);
        transmits = λ all shown. record { sides = shown.sides; each = sides-set _ all c.args.id _ (ap is_some (sym here)) shown.each };
        waits = λ x.
            let keeps = busy-keeps c.args.weight c.args.rounds c.in-Some.device (sound-at c.args.id (c.args.self.now.kept x) here) in
            waiting-more c.args.self.now.devices.items c.args.id _ c.in-Some.device c.poll_busy_of.new.instance here
            (rw ((is x).1, (is x).0) keeps.listed);
      };
    }
