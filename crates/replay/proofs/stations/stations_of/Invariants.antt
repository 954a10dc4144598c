use Rattle.std.proofs.Common.{◌≡◌, ◌-◌, ◌+◌, ◌<◌, ◌≤◌, ℕ, [], slice_index_or, vec_items, vec_len}
use Rattle.{std.specs.{Prelude.filter, List.{All, AllZip, range_with_len}}, poll_engine.specs.Opens.IsStation}
use Rattle.replay.specs.{Dealing.lists, Script.script_of, ThreadsStations.IsStationOf, ThreadsReport.is_opened}
use Rattle.replay.proofs.stations.stations_of.Given as goal

abbrev pub invariant-loop-number : goal.invariant-loop-number
invariant-loop-number l = record {
  of : AllZip (IsStationOf l.rows) (filter (is_opened l.rows) (range_with_len 1 (l.number - 1))) (vec_items l.stations);
  lawful : All IsStation (vec_items l.stations);
  scripts : (place : ℕ) → l.number ≤ place + 1 → place < 16 → slice_index_or (lists l.scripts) place [] ≡ script_of (place + 1) l.rows;
  count : vec_len l.scripts ≡ 16;
}
