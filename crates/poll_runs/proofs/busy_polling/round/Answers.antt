use Rattle.std.proofs.{Common.{length, nat_lt, ◌+◌}, lemmas.Bool.lt-ltb}
use Rattle.napi_model.specs.declared.event.{Operation.TheVariants.Complete, Done.TheVariants.Held}
use Rattle.poll_runs.specs.{Plan.ends, Polling.{and_poll, gives, makes, round_ends}}
use Rattle.poll_runs.proofs.PlanFacts.{does-ends, does-then}
use Rattle.poll_runs.proofs.busy_polling.round.Goals as goal

pub returns-then-work-weight-clause-does : goal.returns-then-work-weight-clause-does
returns-then-work-weight-clause-does g c =
    let i = g.I.Instance in
    let m = g.met.I.Instance in
    let bytes = g.I.BusyInstance.bytes_in in
    let weight = c.args.weight in
    let p = c.busy_poll-work.ensures.does in
    let r = and_poll bytes c.args.report.now p.0 in
    rw (c.with.ensures, c.bytes_of.ensures.sum p.0 p.2, p.3)
    (does-then i.tries i.did m.nothing m.joins (gives weight)
    (λ packets. round_ends (nat_lt (length packets) weight) (and_poll bytes c.args.report.now packets)) _ _ _ p.0 _ p.1
    (rw (lt-ltb (length p.0) weight (rw p.3 at c.if-work-weight.true))
    (does-then i.tries i.did m.nothing m.joins (makes (Complete Held)) (λ _. ends (record r { held = r.held + 1 })) _ _ _ tt _
    c.hold.ensures.does (does-ends i.tries i.did m.nothing m.joins _ _))))
