use Rattle.std.proofs.{Common.{arith}, lemmas.{Grind.common_steps, Slice.Zip.all_zipped_more}}
use Rattle.poll_engine.proofs.setup.pollers.wakers_of.Goals as goal

pub loop-preserved : goal.loop-preserved
loop-preserved c =
    let now = c.loop.invariant in record {
      len = grind (arith, common_steps, now.len, c.in_ok-push.ensures.items);
      wakes = rw (c.in_ok-push.ensures.items, c.in_ok-push-2.ensures.items)
          (all_zipped_more _ _ _ _ _ now.wakes c.in_ok-waker.ensures);
    }
