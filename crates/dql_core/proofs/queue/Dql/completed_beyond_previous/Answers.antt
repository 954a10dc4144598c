use Rattle.std.proofs.Common.{◌≡◌, ◌+◌, ◌-◌, arith}
use Rattle.dql_core.specs.Counter.{distance_of, IsWrapped}
use Rattle.dql_core.proofs.queue.Dql.completed_beyond_previous.Goals as goal

-- the two counters wrap the whole numbers `completed + count` and `completed + ahead`
pub returns-clause-most : goal.returns-clause-most
returns-clause-most c =
    let completed = c.args.self.now.completed in
    let previous = c.args.self.now.previous_queued in
    let ahead = distance_of previous completed in
    let wrapped : IsWrapped previous (completed + ahead) = omega (arith, c.completed_after.ensures.counter.1) in
    let difference : c.positive_difference.result ≡ (completed + c.args.count) - (completed + ahead) =
    c.positive_difference.ensures.counters (completed + c.args.count) (completed + ahead) c.completed_after.ensures.counter.0 wrapped
    (omega arith, omega arith) in
    omega arith
