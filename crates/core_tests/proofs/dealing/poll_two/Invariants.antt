use Rattle.napi_calls.specs.{Seats.SameSeat, Packets.Quiet}
use Rattle.core_tests.proofs.dealing.poll_two.Given as goal

abbrev pub invariant-loop : goal.invariant-loop
invariant-loop g l = SameSeat l.fn.caller.pass l.caller.pass × Quiet l.fn.caller.pass l.caller.pass
