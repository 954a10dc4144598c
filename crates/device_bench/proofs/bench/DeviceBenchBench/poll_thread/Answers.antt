use Rattle.std.proofs.Common.{rules, true, ◌≡◌, ◌<◌, [], ap, length, slice_set, refl, sym, arith}
use Rattle.{device_places.specs.Places.at}
use Rattle.device_bench.proofs.{BenchFacts.{kept-changed, here-at, sound-at}, DeviceFacts.thread-keeps, SideFacts.{set-back, sides-set}}
use Rattle.{device_bench.proofs.Waiting.waiting-more, device_places.proofs.PlaceFacts.at-index, std.specs.Prelude.is_some}
use Rattle.device_bench.proofs.InstanceFacts.{polled-by-thread-if}
use Rattle.device_bench.proofs.bench.DeviceBenchBench.poll_thread.Goals as goal

pub invariant_of-self-clause-kept : goal.invariant_of-self-clause-kept
invariant_of-self-clause-kept g c = λ x.
    let here = here-at c.args.self.now.devices.items c.args.id c.args.self.now.places (omega arith) c.index_mut.ensures.value c.in-Some.is
    in
    let is = polled-by-thread-if g.S.ReceiveSide.exact c.args.most c.args.weight c.in-Some.device _ _ x c.poll_thread_of.ensures.does.2 in
    let keeps = thread-keeps c.args.most c.args.weight c.in-Some.device c.requires.most.0
    (sound-at c.args.id (c.args.self.now.kept x) here) in
    kept-changed c.args.id (c.args.self.now.kept x) here is.1 keeps.sound keeps.pending

pub returns-in-Some : goal.returns-in-Some
returns-in-Some g c =
    let here = here-at c.args.self.now.devices.items c.args.id c.args.self.now.places (omega arith) c.index_mut.ensures.value c.in-Some.is
    in
    let is = λ (x : g.S.ReceiveSide.exact ≡ true). polled-by-thread-if g.S.ReceiveSide.exact c.args.most c.args.weight c.in-Some.device _
    _ x c.poll_thread_of.ensures.does.2 in (
      c.poll_thread_of.ensures.does.0,
      record {
        exact = λ x. (rw here (is x).0, rw (here, (is x).1) refl);
        transmits = λ all shown. record { sides = shown.sides; each = sides-set _ all c.args.id _ (ap is_some (sym here)) shown.each };
        waits = λ x.
            let keeps = thread-keeps c.args.most c.args.weight c.in-Some.device c.requires.most.0
            (sound-at c.args.id (c.args.self.now.kept x) here) in
            waiting-more c.args.self.now.devices.items c.args.id _ c.in-Some.device c.poll_thread_of.new.instance here
            (rw ((is x).1, (is x).0) keeps.listed);
      },
      c.poll_thread_of.ensures.does.4,
    )

pub returns-in_default : goal.returns-in_default
returns-in_default g c =
    let below : c.args.id < length c.args.self.now.devices.items = omega (arith, c.args.self.now.places) in
    let here : at c.args.id c.args.self.now.devices.items ≡ c.index_mut.result.now =
    at-index _ c.args.id _ below (sym c.index_mut.ensures.value) in
    let back : slice_set c.args.self.now.devices.items c.args.id c.index_mut.result.now ≡ c.args.self.now.devices.items =
    set-back _ c.args.id _ below here in (
      [],
      record {
        exact = λ x. (search rules, search rules);
        transmits = λ all shown. record { sides = shown.sides; each = rw back shown.each };
        waits = λ x. search (rules, back);
      },
      search rules,
    )
