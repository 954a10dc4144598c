use Rattle.napi_calls.proofs.{Standing.looked, Making.{nothing, step}}
use Rattle.napi_calls.proofs.caller.meet.Goals as goal

pub invariant_of-first : goal.invariant_of-first
invariant_of-first c = record { stands = looked c.meet.new.first c.args.first.now.stands c.meet.ensures.first.event }

pub invariant_of-second : goal.invariant_of-second
invariant_of-second c = record { stands = looked c.meet.new.second c.args.second.now.stands c.meet.ensures.second.event }

pub returns-clause-first : goal.returns-clause-first
returns-clause-first c = (_, step (nothing c.args.first.now.stands) c.meet.ensures.first)

pub returns-clause-second : goal.returns-clause-second
returns-clause-second c =
    (_, step (nothing c.args.second.now.stands) c.meet.ensures.second)
