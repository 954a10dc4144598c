use Rattle.std.{proofs.Common.{◌≡◌, ◌≤◌, ◌++◌, length, vec_len, vec_capacity}, specs.Vec.Iter.{into_iter_items, into_iter_len}}
use Rattle.napi_calls.specs.Closed.{seats_of}
use Rattle.napi_calls.proofs.instance.seat_callers.Given as goal

abbrev pub invariant-loop-pass : goal.invariant-loop-pass
invariant-loop-pass l =
    (l.fn.passes.items ≡ seats_of l.callers.items ++ into_iter_items l.rest)
    × (l.number ≡ length l.callers.items)
    × (vec_len l.callers ≡ length l.callers.items)
    × (length l.fn.passes.items ≤ vec_capacity l.callers)

abbrev pub decreases-loop-pass : goal.decreases-loop-pass
decreases-loop-pass l = into_iter_len l.rest
