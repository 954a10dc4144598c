use Rattle.std.proofs.Common.{◌≡◌, ◌+◌, ◌≤◌, ◌++◌, List, vec_len, vec_capacity, vec_items}
use Rattle.{std.specs.{Vec.Iter.{into_iter_items, into_iter_len}, List.AllZip}, napi_calls.specs.declared.kept.DropBomb.DropBomb}
use Rattle.poll_engine.specs.{Opens.IsKeptPartOf, Ends.IsKeptFinishOf, declared.setup.opening.Loose.Loose}
use Rattle.poll_engine.proofs.setup.opening.end_all.Given as goal

abbrev pub invariant-loop-other : goal.invariant-loop-other
invariant-loop-other g l = (did : List (DropBomb g.row.R.Denot (Loose g.row.D.Denot))) × record {
  whole : did ++ into_iter_items l.others ≡ vec_items l.fn.loose;
  ends : AllZip IsKeptFinishOf did (vec_items l.finished);
  beside : AllZip IsKeptPartOf (into_iter_items l.others) (into_iter_items l.all);
  count : vec_len l.finished + into_iter_len l.others ≡ vec_len l.fn.loose;
  room : vec_len l.fn.loose ≤ vec_capacity l.finished;
}

abbrev pub decreases-loop-other : goal.decreases-loop-other
decreases-loop-other g l = into_iter_len l.others
