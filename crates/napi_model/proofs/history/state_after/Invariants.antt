use Rattle.std.proofs.Common.{◌≡◌, take}
use Rattle.napi_model.specs.History.{state_after}
use Rattle.napi_model.proofs.history.state_after.Given as goal

abbrev pub invariant-loop-event : goal.invariant-loop-event
invariant-loop-event l = l.state ≡ state_after l.fn.start (take l.event-index l.history)
