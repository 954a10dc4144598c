use Rattle.std.proofs.Common.{◌≡◌}
use Rattle.replay_raised.specs.{Raised.and_again, Raising.raised_so_far}
use Rattle.replay_raised.proofs.raised.Raising.play_again.Given as goal

abbrev pub invariant-loop-left : goal.invariant-loop-left
invariant-loop-left l =
    and_again l.settings l.left l.row (raised_so_far l.self) ≡ and_again l.settings l.fn.restarts l.row (raised_so_far l.fn.self)

abbrev pub decreases-loop-left : goal.decreases-loop-left
decreases-loop-left l = l.left
