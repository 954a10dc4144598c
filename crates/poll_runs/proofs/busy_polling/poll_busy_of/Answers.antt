use Rattle.std.proofs.Common.{arith, ◌≡◌, ◌-◌, ◌+◌, ◌∙◌, suc, nat_lt}
use Rattle.poll_runs.specs.Polling.{left_by, round}
use Rattle.poll_runs.proofs.{PlanFacts.{does-thread, last-has}, BusyFacts.{begins, goes-on, stops}}
use Rattle.poll_runs.proofs.busy_polling.poll_busy_of.Goals as goal

pub loop-init : goal.loop-init
loop-init g c =
    let i = g.I.Instance in
    let m = g.met.I.Instance in
    let took = rw c.if-not-busy_take.false at c.busy_take.ensures.does in
    let all : c.args.rounds - 0 ≡ c.args.rounds = omega arith in record {
      leads =
          rw all
          (begins i.tries i.did m.nothing m.joins g.I.BusyInstance.bytes_in (i.thread c.args.instance.now) c.args.weight c.args.rounds
          c.args.instance.now c.busy_take.new.self took);
      thread = m.same _ _ _ took.1;
      busy = rw c.if-not-busy_take.false at c.busy_take.ensures.hands;
      bounds = (omega arith, omega arith, omega arith, omega arith);
    }

pub loop-preserved : goal.loop-preserved
loop-preserved g c =
    let i = g.I.Instance in
    let m = g.met.I.Instance in
    let was = c.loop.invariant in
    let e = c.round.ensures in
    let bytes = g.I.BusyInstance.bytes_in in
    let less : c.args.rounds - c.loop.counter ≡ suc (c.args.rounds - (c.loop.counter + 1)) = omega (arith, c.loop-test.true) in record {
      leads =
          goes-on i.tries i.did m.nothing m.joins bytes (i.thread c.args.instance.now) c.args.weight c.args.rounds
          c.args.instance.now c.loop.instance c.round.new.instance (c.args.rounds - (c.loop.counter + 1)) c.loop.report c.round.new.report
          (rw less at was.leads)
          (does-thread i.tries i.did (λ b. round bytes b c.args.weight c.loop.report) _ _ _ _ _ was.thread e.does);
      thread = m.same _ _ _ e.does.1 ∙ was.thread;
      busy = e.busy;
      bounds = (
        omega (arith, e.polls, was.bounds.0),
        omega (arith, e.held, was.bounds.1),
        omega (arith, e.work, was.bounds.2),
        omega (arith, e.bytes, was.bounds.3),
      );
    }

pub returns-clause-does : goal.returns-clause-does
returns-clause-does g c =
    let i = g.I.Instance in
    let m = g.met.I.Instance in
    let was = c.loop.invariant in
    let p = c.poll-work.ensures.does in
    let none : c.args.rounds - c.loop.counter ≡ 0 = omega (arith, c.loop-test.false) in
    let thread = m.same _ _ _ p.1.1 ∙ m.same _ _ _ c.stop.ensures.does.1 ∙ was.thread in
    let end =
    does-thread i.tries i.did (λ b. left_by b (nat_lt c.poll-work.result c.args.weight)) _ _ _ _ _ thread c.leave-report.ensures.does in (
      p.0,
      rw (c.with-report.ensures, c.bytes_of.ensures.sum p.0 p.2, p.3)
          (stops i.tries i.did m.nothing m.joins g.I.BusyInstance.bytes_in (i.thread c.args.instance.now) c.args.weight c.args.rounds
          c.args.instance.now _ _ _ _ c.loop.report p.0 _ (rw none at was.leads) c.stop.ensures.does p.1 (rw p.3 at end)),
      last-has i.has _ _ p.0 _ c.leave-report.ensures.there p.2,
    )
