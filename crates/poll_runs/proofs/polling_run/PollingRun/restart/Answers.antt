use Rattle.{std.proofs.Common.arith, poll_runs.proofs.RunFacts.run-begins}
use Rattle.poll_runs.proofs.polling_run.PollingRun.restart.Goals as goal

pub returns-clause-going : goal.returns-clause-going
returns-clause-going g c =
    let l = g.L.PollList in
    run-begins l.entries l.moves l.is_all c.args.list.now c.start.new.list c.start.new.run (omega arith)
    (omega arith) c.start.ensures.rests c.start.ensures.begins
