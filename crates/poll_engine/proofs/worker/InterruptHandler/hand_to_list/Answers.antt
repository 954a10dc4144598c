use Rattle.{std.proofs.Common.{refl}, poll_engine.proofs.Listings.wakes_none}
use Rattle.poll_engine.proofs.worker.InterruptHandler.hand_to_list.Goals as goal

-- the push comes after the hand-over: it is the caller's last event
pub queue-requires : goal.queue-requires
queue-requires g c = record { earlier = _; event = _; last = c.hand-caller.ensures.event.grown; listing = refl }

pub returns-clause-lists : goal.returns-clause-lists
returns-clause-lists g c = record {
  same = c.queue.ensures.same;
  did = _;
  grown = c.hand-caller.ensures.event.grown;
  pushed = c.queue.ensures.pushed;
  woken = c.queue.ensures.woken;
}

pub returns-clause-wakes : goal.returns-clause-wakes
returns-clause-wakes g c = wakes_none _ _ (rw c.queue.ensures.rest refl) (λ w own. refl) c.hand-caller.ensures.event
