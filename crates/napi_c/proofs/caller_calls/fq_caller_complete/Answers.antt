use Rattle.std.proofs.Common.{ℕ, subst}
use Rattle.c_handles.{proofs.Endings.{completes_released, completes_again}, specs.CallerCalls.CallerCompletes}
use Rattle.napi_c.proofs.caller_calls.fq_caller_complete.Goals as goal

pub returns-in-Caller-clause-released : goal.returns-in-Caller-clause-released
returns-in-Caller-clause-released c = λ said.
    let before = c.in-Caller.caller.state in
    let after = c.complete.new.self.state in
    completes_released before after (subst (λ (n : ℕ). CallerCompletes before n after) said c.complete.ensures.0)

pub returns-in-Caller-clause-again : goal.returns-in-Caller-clause-again
returns-in-Caller-clause-again c = λ said.
    let before = c.in-Caller.caller.state in
    let after = c.complete.new.self.state in
    completes_again before after (subst (λ (n : ℕ). CallerCompletes before n after) said c.complete.ensures.0)
