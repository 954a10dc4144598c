use Rattle.{std.proofs.Common.{Bool, List}, poll_runs.specs.Polls.Chain}
use Rattle.poll_engine.proofs.poller.serve.Given as goal

abbrev pub invariant-loop : goal.invariant-loop
invariant-loop g l = (found : List Bool) × Chain g.S.Serves.turns l.initial.served found l.served
