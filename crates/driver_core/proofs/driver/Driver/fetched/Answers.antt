use Rattle.std.proofs.Common.{◌≡◌, ◌∙◌, ◌≤◌, ◌+◌, None, Some, List, length, refl, sym, subst, arith, rules, ap, set}
use Rattle.std.proofs.lemmas.{List.get_or_default, List.Sums.count_by-le-length}
use Rattle.std.proofs.Math.ListN.{length-set}
use Rattle.poll_runs.specs.Driven.{held}
use Rattle.driver_core.specs.{Device.stage_is_listed, Queue.IsQueue, declared.device.DriverDevice.DriverDevice}
use Rattle.poll_runs.specs.Polls.{is_arrival}
use Rattle.driver_core.specs.{Counts.count_one_poll, Driver.{no_pacing, pacing_of, poll_counts_of}, declared.counts.PollCounts.PollCounts}
use Rattle.driver_core.specs.{Device.completes, Pacing.{defers, keeps_polling}}
use Rattle.driver_core.proofs.LineFacts.{polled_line}
use Rattle.driver_core.proofs.QueueFacts.{comes_back, polled_keeps, polled_listed, polled_weights}
use Rattle.driver_core.proofs.driver.Driver.fetched.Goals as goal

pub invariant_of-self-clause-queue : goal.invariant_of-self-clause-queue
invariant_of-self-clause-queue c =
    let self = c.args.self.now in
    let asked = c.requires.polled in
    let back : stage_is_listed c.end_poll-next.result.0.stage ≡ comes_back c.end_poll-next.result.1 =
    rw c.end_poll-next.ensures
    (polled_listed (keeps_polling c.args.packets c.pacing-pacing.result) (defers c.args.packets c.pacing-pacing.result) c.args.rearm
    c.get-before.result) in
    let kept =
    polled_keeps self.devices.all.items self.list c.polled.new.self self.run c.polled.new.run c.args.device c.end_poll-next.result.0
    c.end_poll-next.result.1 c.requires.range asked c.polled.ensures.rests c.polled.ensures.kept
    (c.polled.ensures.repoll c.args.device asked) (c.polled.ensures.list c.args.device asked) back self.queue in
    subst (λ (devices : List DriverDevice). IsQueue devices c.polled.new.self c.polled.new.run) (sym c.put.ensures) kept

pub polled-requires-clause-room : goal.polled-requires-clause-room
polled-requires-clause-room c =
    let self = c.args.self.now in
    let listed = count_by-le-length (λ (d : DriverDevice). stage_is_listed d.stage) self.devices.all.items in
    let room : length self.list + held self.run ≤ 64 = omega (arith, self.queue.size, listed, self.devices.few) in
    room

pub invariant_of-self-clause-paced : goal.invariant_of-self-clause-paced
invariant_of-self-clause-paced c =
    let self = c.args.self.now in
    let set : length c.put.new.self.all.items ≡ length self.devices.all.items =
    rw c.put.ensures (length-set self.devices.all.items c.args.device c.end_poll-next.result.0) in
    omega (arith, self.paced, set, length-set self.pacings.items c.args.device c.count.new.self)

pub invariant_of-self-clause-weights : goal.invariant_of-self-clause-weights
invariant_of-self-clause-weights c =
    let self = c.args.self.now in
    let at-hand : c.index_mut-2.result.now ≡ pacing_of self c.args.device =
    c.index_mut-2.ensures.value
    ∙ get_or_default self.pacings.items c.args.device c.index_mut-2.result.now no_pacing (omega (arith, self.paced, c.requires.range)) in
    rw (c.count.ensures, at-hand)
    (polled_weights self.limits self.pacings.items c.args.device
    (completes (keeps_polling c.args.packets (pacing_of self c.args.device)) c.args.rearm c.get-before.result) c.args.packets
    (omega (arith, self.paced, c.requires.range)) self.weights)

pub invariant_of-self-clause-idle : goal.invariant_of-self-clause-idle
invariant_of-self-clause-idle c =
    λ off. let none : None ≡ Some c.args.device = sym (c.args.self.now.idle off).asked ∙ c.requires.polled in absurd (cc none)

pub invariant_of-self-clause-pace : goal.invariant_of-self-clause-pace
invariant_of-self-clause-pace c = λ on. let same = c.args.self.now.pace on in record {
  budget = c.polled.ensures.settings.budget ∙ same.budget;
  weight = c.polled.ensures.settings.weight ∙ same.weight;
  window = c.polled.ensures.settings.window ∙ same.window;
}

pub returns-clause-ends : goal.returns-clause-ends
returns-clause-ends c =
    let self = c.args.self.now in
    let asked = c.requires.polled in
    let at-hand : c.counts-so_far.result ≡ poll_counts_of self c.args.device = c.counts-so_far.ensures in
    let paced : c.index_mut-2.result.now ≡ pacing_of self c.args.device =
    c.index_mut-2.ensures.value
    ∙ get_or_default self.pacings.items c.args.device c.index_mut-2.result.now no_pacing (omega (arith, self.paced, c.requires.range)) in
    record {
      devices = search rules;
      counts = rw c.and.ensures (ap (λ (x : PollCounts). set self.counts.items c.args.device (count_one_poll c.args.packets x)) at-hand);
      pacings = rw (c.count.ensures, paced) (search rules);
      limits = refl;
      number = refl;
      ending = refl;
      free = search rules;
      line = polled_line self.list c.polled.new.self self.run c.polled.new.run c.args.device (is_arrival c.end_poll-next.result.1) asked
          c.polled.ensures.rests c.polled.ensures.kept (c.polled.ensures.list c.args.device asked);
    }
