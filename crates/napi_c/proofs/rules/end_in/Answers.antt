use Rattle.std.proofs.Common.{Bool, subst, sym, ◌∙◌}
use Rattle.napi_c.specs.Rules.{CallerEndsBy}
use Rattle.napi_c.proofs.rules.end_in.Goals as goal

pub returns-then-is_full_poll-clause-makes : goal.returns-then-is_full_poll-clause-makes
returns-then-is_full_poll-clause-makes c =
    let ends = λ (full : Bool). CallerEndsBy full c.in-Caller.caller c.end_full.result c.end_full.new.next c.end_full.new.caller in
    rw c.in-Caller.is (subst ends (sym c.if-is_full_poll.true ∙ c.is_full_poll.ensures) c.end_full.ensures.makes)

pub returns-clause-makes : goal.returns-clause-makes
returns-clause-makes c =
    let ends = λ (full : Bool). CallerEndsBy full c.in-Caller.caller c.complete.result c.complete.new.next c.complete.new.caller in
    rw c.in-Caller.is (subst ends (sym c.if-is_full_poll.false ∙ c.is_full_poll.ensures) c.complete.ensures.makes)
