use Rattle.std.proofs.Common.{if◌then◌else◌}
use Rattle.poll_runs.specs.{Plan.ends, Polling.{completed, disabling, next_of}, declared.bench.Next.TheVariants.Repoll}
use Rattle.poll_runs.proofs.PlanFacts.{does-from, does-then, does-thread}
use Rattle.poll_runs.proofs.polling.end.Goals.{else-full-via-then-full+else-not-is_disabling, else-full-via-else-full}
use Rattle.poll_runs.proofs.polling.end.Goals as goal

pub returns-clause-does : goal.returns-clause-does
returns-clause-does g c =
    let i = g.I.Instance in
    let m = g.met.I.Instance in
    elim c.else-full.branch [
      | else-full-via-then-full+else-not-is_disabling w ↦
          let looked = rw w.if-not-is_disabling.false at w.is_disabling.ensures.does in
          let done = does-from i.tries i.did (λ it. completed (i.thread it)) _ _ _ _ w.instance-is c.complete.ensures.does in
          rw (w.if-full.true, c.next_of.ensures)
          (does-then i.tries i.did m.nothing m.joins disabling
          (λ off. if off then completed (i.thread c.args.instance.now) else ends Repoll) _ _ _ _ (next_of c.complete.result) looked
          (does-thread i.tries i.did completed _ _ _ _ _ (m.same _ _ _ looked.1) done))
      | else-full-via-else-full w ↦
          rw (w.if-full.false, c.next_of.ensures)
          (does-from i.tries i.did (λ it. completed (i.thread it)) _ _ _ _ w.instance-is c.complete.ensures.does)
    ]
