use Rattle.std.proofs.Common.{◌≡◌, take}
use Rattle.napi_model.specs.History.{state_after, LegalHistory}
use Rattle.napi_model.proofs.history.first_illegal.Given as goal

abbrev pub invariant-loop-i : goal.invariant-loop-i
invariant-loop-i l = record {
  reached : l.reached ≡ state_after l.fn.start (take l.i l.history);
  legal : LegalHistory l.controller l.fn.start (take l.i l.history);
}
