use Rattle.std.{proofs.Common.{◌≡◌, length, vec_items}, specs.List.AllZip}
use Rattle.poll_engine.specs.Wakers.{Wakes}
use Rattle.poll_engine.proofs.setup.pollers.wakers_of.Given as goal

abbrev pub invariant-loop : goal.invariant-loop
invariant-loop l = record {
  len : length (vec_items l.wakers) ≡ l.counter;
  wakes : AllZip Wakes (vec_items l.wakers) (vec_items l.waits);
}
