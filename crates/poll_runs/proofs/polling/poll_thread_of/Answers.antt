use Rattle.std.proofs.{Common.{arith, [], ◌∙◌, ◌+◌, refl}, lemmas.Bool.eqb-false}
use Rattle.poll_runs.specs.Polling.{poll_plan}
use Rattle.poll_runs.proofs.{PlanFacts.{does-thread, last-has}, PollingFacts.{going-ends, going-poll, going-start}}
use Rattle.poll_runs.proofs.polling.poll_thread_of.Goals as goal

pub loop-held-init : goal.loop-held-init
loop-held-init g c = let i = g.I.Instance in let m = g.met.I.Instance in record {
  going = (
    [],
    (refl, refl),
    going-start i.tries i.did m.nothing m.joins (i.thread c.args.instance.now) c.args.weight c.args.most c.args.instance.now _ _
        c.requires.most.0 c.take-held.ensures.does,
  );
  thread = m.same _ _ _ c.take-held.ensures.does.1;
  room = λ h. c.requires.most.0;
  bound = omega arith;
  hands = c.take-held.ensures.hands;
}

pub loop-held-preserved : goal.loop-held-preserved
loop-held-preserved g c =
    let i = g.I.Instance in
    let m = g.met.I.Instance in
    let was = c.loop-held.invariant in
    let p = c.poll_held-once.ensures.does in
    let f = c.follow-held.ensures in record {
      going = (
        p.0,
        last-has i.has _ _ p.0 _ c.poll_held-once.ensures.there p.2,
        going-poll i.tries i.did m.nothing m.joins (i.thread c.args.instance.now) c.args.weight c.args.most c.args.instance.now _ _ _ _
            p.0 _ c.poll_held-once.result _ (rw c.loop-held-test.true at was.going.2) (was.room c.loop-held-test.true)
            (does-thread i.tries i.did (λ b. poll_plan b c.args.weight) _ _ _ _ _ was.thread p.1) f.does
            (c.poll_held-once.ensures.bound, c.poll_held-once.ensures.there) (λ h. (f.kept h).0) f.gone,
      );
      thread = m.same _ _ _ f.does.1 ∙ m.same _ _ _ p.1.1 ∙ was.thread;
      room =
          λ h. omega (arith, eqb-false (c.loop-held.report.polls + 1) c.args.most (f.kept h).1, was.room c.loop-held-test.true);
      bound = omega (arith, c.poll_held-once.ensures.bound, was.bound, c.requires.weight.1);
      hands = f.hands;
    }

pub returns-clause-does : goal.returns-clause-does
returns-clause-does g c =
    let i = g.I.Instance in
    let m = g.met.I.Instance in
    let was = c.loop-held.invariant in
    let e =
    going-ends i.tries i.did m.nothing m.joins (i.thread c.args.instance.now) c.args.weight c.args.most c.args.instance.now _ _ _
    (rw c.loop-held-test.false at was.going.2) in
    (e.0, e.1, e.2, rw e.3 was.going.1, e.4)
