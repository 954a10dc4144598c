use Rattle.{std.proofs.Common.refl, replay_rows.proofs.RunFacts.{only-run, run-room, transmits-stay}}
use Rattle.replay_rows.proofs.replay.Replay.run.Goals as goal

pub returns-clause-transmits : goal.returns-clause-transmits
returns-clause-transmits g c =
    transmits-stay c.args.settings.now _ _ _ c.run_softirq-run.ensures.run.1

pub returns-in_err-push-clause-transmits : goal.returns-in_err-push-clause-transmits
returns-in_err-push-clause-transmits g c =
    transmits-stay c.args.settings.now _ _ _ c.run_softirq-run.ensures.run.1

pub returns-clause-state : goal.returns-clause-state
returns-clause-state g c = λ x.
    let is = only-run c.args.settings.now c.args.self.now.bench c.run_softirq-run.new.bench _ _ _ _ x c.run_softirq-run.ensures.run.1
    c.run_softirq-run.ensures.run.2 in
    rw (is.devices_after, is.list_after, c.in_ok-push.ensures.items, is.reported) refl

pub invariant_of-self : goal.invariant_of-self
invariant_of-self g c = record {
  room = λ x. run-room c.args.settings.now c.args.self.now.bench c.run_softirq-run.new.bench _ _ _ _ x c.run_softirq-run.ensures.run.1
      c.run_softirq-run.ensures.run.2 (c.args.self.now.room x);
}
