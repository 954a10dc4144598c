use Rattle.std.proofs.Common.{Some}
use Rattle.napi_calls.specs.Instance.{IsSeatOf}
use Rattle.device_shared.specs.Callers.{Same, control_pass}
use Rattle.device_shared.proofs.ending.disable.Given as goal

abbrev pub invariant-loop : goal.invariant-loop
invariant-loop g l = record {
  poller : IsSeatOf l.napi l.poller.pass;
  thread : IsSeatOf l.napi l.thread.pass;
  control : Same (control_pass l.fn.control) (Some l.marked.pass);
}
