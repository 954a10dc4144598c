use Rattle.std.proofs.Common.{[], length, ◌==◌, refl}
use Rattle.poll_runs.specs.Polling.{ended, gives}
use Rattle.poll_runs.proofs.PlanFacts.{does-then}
use Rattle.poll_runs.proofs.polling.poll_held.Goals as goal

pub returns-clause-does : goal.returns-clause-does
returns-clause-does g c =
    let i = g.I.Instance in
    let m = g.met.I.Instance in
    let p = c.poll-work.ensures.does in
    let end = rw (m.same _ _ _ p.1.1, p.3) at c.end-next.ensures.does in (
      p.0,
      rw p.3 (does-then i.tries i.did m.nothing m.joins (gives c.args.weight) _ _ _ _ p.0 _ p.1
          (does-then i.tries i.did m.nothing m.joins (ended (i.thread c.args.instance.now) (length p.0 == c.args.weight)) _ _ _ _ _ _
          end ([], m.nothing _, (refl, refl)))),
      p.2,
    )
