use Rattle.{std.proofs.Common.{None, Some, rules, refl}, poll_engine.proofs.SeatFacts.polls_at}
use Rattle.poll_engine.proofs.list_poller.HandleBenchBench.poll_once.Goals as goal

pub returns-in-Some-clause-leads : goal.returns-in-Some-clause-leads
returns-in-Some-clause-leads g c =
    polls_at {R = g.row.R.Denot} c.as_slice.result.now c.args.self.now c.args.id c.args.weight c.poll.result _ (Some c.in-Some.at)
    (search rules) c.in-Some.ensures (record {
      was = c.index_mut.result.now;
      now = _;
      within = search rules;
      there = search rules;
      same = c.poll.ensures.same;
      polls = c.poll.ensures.polls;
      wakes = c.poll.ensures.wakes;
      others = refl;
    })

pub returns-in-None-clause-leads : goal.returns-in-None-clause-leads
returns-in-None-clause-leads g c =
    polls_at {R = g.row.R.Denot} c.as_slice.result.now c.args.self.now c.args.id c.args.weight _ c.args.self.now None
    (search rules) c.in-None.ensures (record { work = refl; next = refl; wakes = refl; seats = refl })
