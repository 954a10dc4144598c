use Rattle.std.proofs.Common.{◌≡◌, ◌∙◌, [], rules}
use Rattle.poll_runs.proofs.RunFacts.{ahead-popped, going-filled, none-popped}
use Rattle.poll_runs.proofs.polling_run.PollingRun.next.Goals as goal

pub returns-clause-going : goal.returns-clause-going
returns-clause-going g c = λ start polls h.
    let l = g.L.PollList in
    let run = c.args.self.now in
    let left = c.is_spent.ensures.left (search rules) in
    let filled = going-filled l.entries l.moves l.is_all l.has_room run.budget run.window start polls c.args.list.now c.refill.new.list
    run.own run.repoll c.refill.new.own run.polls run.work g.met.L.PollList.joins left.0 left.1 c.refill.ensures
    (rw c.requires.rests at h) in
    rw (ahead-popped c.pop_front-self.result c.refill.new.own c.pop_front-self.new.self c.pop_front-self.ensures) filled.going

pub returns-clause-over : goal.returns-clause-over
returns-clause-over g c = λ start polls none h.
    let l = g.L.PollList in
    let run = c.args.self.now in
    let left = c.is_spent.ensures.left (search rules) in
    let filled = going-filled l.entries l.moves l.is_all l.has_room run.budget run.window start polls c.args.list.now c.refill.new.list
    run.own run.repoll c.refill.new.own run.polls run.work g.met.L.PollList.joins left.0 left.1 c.refill.ensures
    (rw c.requires.rests at h) in
    let empty : c.refill.new.own ≡ [] =
    none-popped c.pop_front-self.result c.refill.new.own c.pop_front-self.new.self none c.pop_front-self.ensures in
    λ unspent. (
      ahead-popped c.pop_front-self.result c.refill.new.own c.pop_front-self.new.self c.pop_front-self.ensures ∙ empty,
      rw (← filled.going.again) (filled.none empty),
    )
