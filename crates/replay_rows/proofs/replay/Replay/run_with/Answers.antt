use Rattle.{std.proofs.Common.{◌∙◌, ap, refl}, replay_rows.proofs.RunFacts.{only-run, run-room, transmits-stay}}
use Rattle.device_bench.specs.DeviceBench.{devices_of}
use Rattle.replay_rows.specs.RunLog.{logged}
use Rattle.replay_rows.proofs.replay.Replay.run_with.Goals as goal

pub returns-clause-transmits : goal.returns-clause-transmits
returns-clause-transmits g c =
    transmits-stay c.args.settings.now _ _ _ c.run_logged-run.ensures.polls

pub returns-in_err-push-clause-transmits : goal.returns-in_err-push-clause-transmits
returns-in_err-push-clause-transmits g c =
    transmits-stay c.args.settings.now _ _ _ c.run_logged-run.ensures.polls

pub returns-clause-state : goal.returns-clause-state
returns-clause-state g c = λ x.
    let is = only-run c.args.settings.now c.args.self.now.bench c.run_logged-run.new.bench _ _ _ _ x c.run_logged-run.ensures.polls
    c.run_logged-run.ensures.run in
    rw (is.devices_after, is.list_after, c.in_ok-push.ensures.items, is.reported) refl

pub invariant_of-self-2 : goal.invariant_of-self-2
invariant_of-self-2 g c = record {
  room = λ x. run-room c.args.settings.now c.args.self.now.bench c.run_logged-run.new.bench _ _ _ _ x c.run_logged-run.ensures.polls
      c.run_logged-run.ensures.run (c.args.self.now.room x);
}

pub returns-clause-polls : goal.returns-clause-polls
returns-clause-polls g c = λ x all shows.
    let is = only-run c.args.settings.now c.args.self.now.bench c.run_logged-run.new.bench _ _ _ _ x c.run_logged-run.ensures.polls
    c.run_logged-run.ensures.run in
    c.run_logged-run.ensures.logged x all shows
    ∙ ap (logged c.args.settings.now all (devices_of c.args.self.now.bench)) is.polls_are
