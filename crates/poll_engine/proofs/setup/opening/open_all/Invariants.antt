use Rattle.std.proofs.Common.{◌≡◌, ◌+◌, ◌≤◌, ◌++◌, vec_len, vec_capacity, vec_items, length}
use Rattle.{std.specs.{Vec.Iter.{into_iter_items, into_iter_len}, List.AllZip}, poll_engine.specs.Opens.{IsKeptLoose, IsKeptSideOf}}
use Rattle.poll_engine.proofs.setup.opening.open_all.Given as goal

abbrev pub invariant-loop-station : goal.invariant-loop-station
invariant-loop-station g l = record {
  can : (goal.iterator-loop-station g).can_next l.station-iterator;
  ends : (goal.iterator-loop-station g).is_finite l.station-iterator;
  all : l.yielded ++ into_iter_items l.station-iterator ≡ vec_items l.fn.stations;
  left : length l.yielded + into_iter_len l.station-iterator ≡ length (vec_items l.fn.stations);
  count : vec_len l.placed ≡ length l.yielded;
  as_count : vec_len l.loose ≡ length l.yielded;
  room : vec_len l.fn.stations ≤ vec_capacity l.placed;
  as_room : vec_len l.fn.stations ≤ vec_capacity l.loose;
  made : AllZip IsKeptLoose l.yielded (vec_items l.loose);
  sides : AllZip IsKeptSideOf (vec_items l.loose) (vec_items l.placed);
}
