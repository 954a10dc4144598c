use Rattle.std.proofs.Common.{◌≡◌, ◌<◌, ℕ, true, false}
use Rattle.std.specs.Prelude.{is_some}
use Rattle.{device_bench.specs.Kept.is_pending_at, device_bench.proofs.BenchFacts.settled_to, device_places.specs.Places.at}
use Rattle.device_bench.proofs.bench.DeviceBench.settle.Given as goal

abbrev pub invariant-loop-device : goal.invariant-loop-device
invariant-loop-device g l = record {
  devices : g.S.ReceiveSide.exact ≡ true → l.self.devices.items ≡ settled_to l.device l.fn.self.devices.items;
  places : (number : ℕ) → is_some (at number l.self.devices.items) ≡ is_some (at number l.fn.self.devices.items);
  transmits : l.self.transmits ≡ l.fn.self.transmits;
  marked : l.self.unsettled ≡ true;
  pending : g.S.ReceiveSide.exact ≡ true → l.unsettled ≡ false → (number : ℕ) → number < l.device → is_pending_at
      (at number l.self.devices.items) ≡ false;
}
