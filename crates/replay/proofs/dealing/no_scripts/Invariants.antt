use Rattle.std.proofs.Common.{◌≡◌, ◌-◌, [], replicate}
use Rattle.replay.specs.Dealing.{lists}
use Rattle.replay.proofs.dealing.no_scripts.Given as goal

abbrev pub invariant-loop : goal.invariant-loop
invariant-loop l = lists l.scripts ≡ replicate (l.counter - 1) []
