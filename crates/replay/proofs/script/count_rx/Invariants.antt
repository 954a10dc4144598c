use Rattle.std.proofs.Common.{◌≡◌, ◌≤◌, length, take}
use Rattle.replay.specs.Script.{rx_of}
use Rattle.replay.proofs.script.count_rx.Given as goal

abbrev pub invariant-loop-row : goal.invariant-loop-row
invariant-loop-row l = record {
  count : l.packets ≡ length (rx_of (take l.row-index l.rows));
  few : l.packets ≤ l.row-index;
}
