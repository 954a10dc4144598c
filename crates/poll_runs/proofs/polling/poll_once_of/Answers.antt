use Rattle.poll_runs.specs.{Plan.{ends, ◌>>=◌}, Polling.{Given, found, let_go, poll_plan, takes}}
use Rattle.poll_runs.proofs.PlanFacts.{does-ends, does-then, does-thread, last-has}
use Rattle.poll_runs.proofs.polling.poll_once_of.Goals as goal
use Rattle.napi_model.specs.declared.state.Kind.TheVariants as kind

pub returns-clause-does : goal.returns-clause-does
returns-clause-does g c =
    let i = g.I.Instance in
    let m = g.met.I.Instance in
    let thread = i.thread c.args.instance.now in
    let took = rw c.if-not-take.false at c.take.ensures.does in
    let p = c.poll_held-once.ensures.does in
    let given : Given _ = record { once = c.poll_held-once.result; packets = p.0 } in (
      p.0,
      does-then i.tries i.did m.nothing m.joins (takes kind.List) (found thread c.args.weight) _ _ _ _ given took
          (does-then i.tries i.did m.nothing m.joins (poll_plan thread c.args.weight)
          (λ (h : Given _). let_go h.once.next >>= λ _. ends h) _ _ _ given given
          (does-thread i.tries i.did (λ b. poll_plan b c.args.weight) _ _ _ _ _ (m.same _ _ _ took.1) p.1)
          (does-then i.tries i.did m.nothing m.joins (let_go given.once.next) (λ _. ends given) _ _ _ _ given c.let_go.ensures.does
          (does-ends i.tries i.did m.nothing m.joins c.let_go.new.instance given))),
      last-has i.has _ _ p.0 _ c.poll_held-once.ensures.there p.2,
    )
