use Rattle.std.proofs.Common.{◌≡◌, ◌++◌, ◌≤◌, true, length, map, take}
use Rattle.poll_engine.specs.Trails.{signals}
use Rattle.poll_engine.proofs.driving.close_all.Given as goal

abbrev pub invariant-loop-waker : goal.invariant-loop-waker
invariant-loop-waker g l = record {
  told : signals l.closes ≡ signals l.fn.closes ++ map (λ waker. (waker, true, l.fn.tasks)) (take l.waker-index l.wakers);
  end : l.waker-index-end ≡ length l.wakers;
}
