use Rattle.napi_c.specs.Rules.{Fails}
use Rattle.napi_c.proofs.attempts.repeat.Given as goal

abbrev pub invariant-loop : goal.invariant-loop
invariant-loop g l = Fails (g.A.Attempt.makes l.attempt) l.counter l.fn.it l.it
