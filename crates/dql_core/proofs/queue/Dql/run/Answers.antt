use Rattle.std.{proofs.Common.{◌≡◌, arith}, specs.Int.from_bool}
use Rattle.dql_core.{proofs.Accepted.{from_bool_most, makes_more}, specs.{Dql.Shows, Limit.{limit_event_fault, limit_after}}}
use Rattle.dql_core.proofs.queue.Dql.run.Goals as goal

pub loop-i-preserved : goal.loop-i-preserved
loop-i-preserved c =
    let one : c.from-refused.result ≡ from_bool c.is_err.result = c.from-refused.ensures in
    makes_more limit_event_fault limit_after Shows _ c.loop-i.self c.apply.new.self c.args.events.now c.loop-i.i _ c.loop-i.refused _
    c.apply.result
    c.loop-i-test.true
    c.apply.ensures.ok c.apply.ensures.err c.apply.ensures.fault (rw c.is_err.ensures.value at one) c.loop-i.invariant

pub overflow_add-refused : goal.overflow_add-refused
overflow_add-refused c =
    let one : c.from-refused.result ≡ from_bool c.is_err.result = c.from-refused.ensures in
    let most = from_bool_most c.is_err.result in
    omega (arith, c.loop-i.invariant.fits)
