use Rattle.std.proofs.Common.{◌≡◌, ◌+◌, ◌∷◌, ℕ, length, subst, arith}
use Rattle.poll_runs.proofs.RunFacts.{going-poll, same-some}
use Rattle.poll_runs.proofs.polling_run.PollingRun.polled.Goals as goal

pub hand_on-requires-clause-list : goal.hand_on-requires-clause-list
hand_on-requires-clause-list g c =
    let l = g.L.PollList in
    let run = c.args.self.now in
    let room : l.has_room c.args.list.now (length (c.in-Some.id ∷ run.own) + length run.repoll) = rw c.in-Some.is at c.requires.room in
    let same : length (c.in-Some.id ∷ run.own) + length run.repoll ≡ (length run.own + length run.repoll) + 1 = omega arith in
    g.met.L.PollList.room_to_push c.args.list.now (length run.own + length run.repoll)
    (subst (λ (n : ℕ). l.has_room c.args.list.now n) same room)

pub returns-clause-going : goal.returns-clause-going
returns-clause-going g c = λ start polls id asked h.
    let l = g.L.PollList in
    let run = c.args.self.now in
    let left = run.left c.requires.asked in
    let same : id ≡ c.in-Some.id = same-some id c.in-Some.id run.asked asked c.in-Some.is in
    rw (same, c.hand_on.ensures.repoll)
    (going-poll l.entries l.moves l.is_all l.has_room run.budget run.window start polls c.args.list.now c.hand_on.new.list
    run.own run.repoll run.polls run.work
    (record { id = c.in-Some.id; once = c.args.once }) g.met.L.PollList.stays g.met.L.PollList.joins left.0 left.1
    c.hand_on.ensures.list (rw c.in-Some.is at h))
