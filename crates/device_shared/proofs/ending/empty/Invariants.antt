use Rattle.std.proofs.Common.{◌≡◌, ◌-◌, length}
use Rattle.rx_ring.specs.Ends.{IsOneRing, SameCtx, SameIn, put_list, received_list}
use Rattle.device_shared.proofs.ending.empty.Given as goal

abbrev pub invariant-loop-batch : goal.invariant-loop-batch
invariant-loop-batch l = record {
  one : IsOneRing l.input l.ctx;
  input : SameIn l.fn.input l.input;
  ctx : SameCtx l.fn.ctx l.ctx;
  put : put_list l.input ≡ put_list l.fn.input;
}

abbrev pub decreases-loop-batch : goal.decreases-loop-batch
decreases-loop-batch l = length (put_list l.input) - length (received_list l.ctx)
