use Rattle.poll_runs.proofs.RunFacts.{run-ends}
use Rattle.poll_runs.proofs.polling_run.PollingRun.finish.Goals as goal

pub returns-clause-run : goal.returns-clause-run
returns-clause-run g c = λ start polls h over.
    let l = g.L.PollList in
    run-ends l.entries l.moves l.is_all start polls c.args.list.now c.give_back-report.new.list c.args.self.now c.give_back-report.result
    g.met.L.PollList.joins c.requires.rests
    c.give_back-report.ensures.back c.give_back-report.ensures.all c.give_back-report.ensures.report h over
