use Rattle.std.{proofs.Common.{◌≡◌, ◌+◌, ◌-◌, ◌≤◌, ◌++◌, None, length, replicate}, specs.Prelude.max}
use Rattle.machine_model.proofs.devices.make_place.Given as goal

abbrev pub invariant-loop : goal.invariant-loop
invariant-loop l = record {
  places : l.places.items ≡ l.fn.places.items ++ replicate (l.counter - length l.fn.places.items) None;
  counter : length l.places.items ≡ l.counter;
  few : length l.places.items ≤ 64;
  most : l.counter ≤ max (length l.fn.places.items) (l.number + 1);
}
