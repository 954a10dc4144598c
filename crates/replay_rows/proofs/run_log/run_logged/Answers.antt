use Rattle.std.proofs.{Common.{◌≡◌, ◌∙◌, ◌∷◌, ◌++◌, Some, [], length-append, refl, sym, arith}, lemmas.List.{append-nil, map-append}}
use Rattle.device_bench.specs.DeviceBench.{IsListPoll, devices_of}
use Rattle.{poll_runs.specs.Polls.At, poll_runs.proofs.PollFacts.chain-push}
use Rattle.{replay_rows.specs.{RunLog.{logged, polls_in}, declared.run_log.RunPoll.RunPoll}, replay_rows.proofs.RunLogFacts.logged-push}
use Rattle.replay_rows.proofs.run_log.run_logged.Goals as goal

pub loop-device-init : goal.loop-device-init
loop-device-init g c =
    let none = c.requires.none in
    record {
      going = rw none c.begin-run.ensures.going;
      rests = c.begin-run.ensures.rests;
      room = c.begin-run.ensures.room;
      budget = c.begin-run.ensures.settings.0;
      weight = c.begin-run.ensures.settings.1;
      window = c.begin-run.ensures.settings.2;
      chain = rw none refl;
      count = rw none (sym c.begin-run.ensures.begins.polls);
      capacity = c.requires.room;
      shows = λ all shows. shows;
      logged = λ x all shows more. rw none refl;
    }

pub loop-device-preserved : goal.loop-device-preserved
loop-device-preserved g c =
    let before = c.loop-device.invariant in
    let log = c.loop-device.polls.items in
    let device = c.in-Some.device in
    let once = c.poll_once-once.result in
    let asked : c.next.new.self.asked ≡ Some device = c.next.ensures.asks ∙ c.in-Some.is in
    let entry : RunPoll = record { device = device; once = once; counts = c.counts_of.result } in
    let pushed : polls_in (log ++ entry ∷ []) ≡ polls_in log ++ record { id = device; once = once } ∷ [] =
    map-append (λ (e : RunPoll). record { id = e.device; once = e.once }) log (entry ∷ []) in
    let is = c.poll_once-once.ensures.leads in
    let items = c.push_reserved.ensures.items in
    record {
      going = rw (items, pushed)
          (c.polled.ensures.going c.args.list.now (polls_in log) device asked
          (c.next.ensures.going c.args.list.now (polls_in log) before.going));
      rests = c.polled.ensures.rests;
      room = c.polled.ensures.room;
      budget = c.polled.ensures.settings.budget ∙ (c.next.ensures.settings.budget ∙ before.budget);
      weight = c.polled.ensures.settings.weight ∙ (c.next.ensures.settings.weight ∙ before.weight);
      window = c.polled.ensures.settings.window ∙ (c.next.ensures.settings.window ∙ before.window);
      chain = rw (items, pushed)
          (chain-push (At IsListPoll c.args.settings.now.weight) c.args.bench.now (polls_in log) c.loop-device.bench
          c.poll_once-once.new.self (record { id = device; once = once }) before.chain c.poll_once-once.ensures.leads);
      count = rw items
          (omega (arith, length-append log (entry ∷ []), before.count, c.polled.ensures.counts.0, c.next.ensures.counts));
      capacity = omega (arith, before.capacity, c.push_reserved.ensures.capacity);
      shows = λ all shows. is.transmits all (before.shows all shows);
      logged = λ x all shows. rw items
          (logged-push c.args.settings.now all (devices_of c.args.bench.now) (devices_of c.loop-device.bench)
          (devices_of c.poll_once-once.new.self) log entry (before.logged x all shows) (is.exact x).1
          (c.counts_of.ensures x all (is.transmits all (before.shows all shows))));
    }

pub returns-clause-logged : goal.returns-clause-logged
unfolding logged
returns-clause-logged g c = λ x all shows. sym (simp append-nil at (c.loop-device.invariant.logged x all shows []))

pub returns-clause-run : goal.returns-clause-run
returns-clause-run g c =
    let inv = c.loop-device.invariant in
    let log = polls_in c.loop-device.polls.items in
    let going = c.next.ensures.going c.args.list.now log inv.going in
    let over = c.next.ensures.over c.args.list.now log c.in_default.is inv.going in
    let budget : c.next.new.self.budget ≡ c.args.settings.now.budget = c.next.ensures.settings.budget ∙ inv.budget in
    let window : c.next.new.self.window ≡ c.args.settings.now.window = c.next.ensures.settings.window ∙ inv.window in
    rw (budget, window) at (c.end.ensures.run c.args.list.now log going over)
