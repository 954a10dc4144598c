use Rattle.std.proofs.Common.{◌≡◌, ◌+◌, ◌*◌, ◌≤◌, drop, sum}
use Rattle.device_bench.proofs.serial_receive.byte_sum.Given as goal

abbrev pub invariant-loop-bytes : goal.invariant-loop-bytes
invariant-loop-bytes l = record {
  counted : sum l.batch ≡ l.sum + sum (drop l.bytes-index l.batch);
  bound : l.sum ≤ 4294967295 * l.bytes-index;
}
