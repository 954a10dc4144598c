use Rattle.std.proofs.{Common.{◌≡◌, ◌≤◌, ◌∷◌, ◌++◌, [], length, vec_items, refl, arith}, lemmas.Grind.common_steps}
use Rattle.std.proofs.{lemmas.List.nil_from_length, lemmas.Slice.Zip.all_zipped_more}
use Rattle.poll_engine.proofs.ListFacts.{before_more, first_of, none_left, zip_both, zip_same}
use Rattle.poll_engine.proofs.tasks.join_all.Goals.{in-Running, in-Ended}
use Rattle.poll_engine.specs.{Tasks.IsSpawned, declared.tasks.Spawned.Spawned}
use Rattle.poll_engine.proofs.tasks.join_all.Goals as goal

pub loop-spawned-init : goal.loop-spawned-init
loop-spawned-init g c =
    let none : vec_items c.args.tasks.now ≡ [] = nil_from_length _ (grind (arith, common_steps)) in (
      [],
      record {
        whole = refl;
        each = rw none tt;
        count = grind (arith, common_steps);
        room = grind (arith, common_steps);
      },
    )

pub loop-spawned-preserved : goal.loop-spawned-preserved
loop-spawned-preserved g c =
    let i = c.loop-spawned.invariant in
    let now = i.1 in
    let some : 1 ≤ length (vec_items c.loop-spawned.spawned) = grind (arith, common_steps) in
    let first = first_of (vec_items c.loop-spawned.spawned) (vec_items c.remove.new.self) c.remove.result some c.remove.ensures.value
    c.remove.ensures.items in
    let more = before_more _ _ _ _ _ now.whole first in (
      i.0 ++ c.remove.result ∷ [],
      record {
        whole = more.2;
        each = rw c.push_reserved.ensures.items (all_zipped_more _ _ _ _ _ now.each (λ task was. elim c.match-remove.branch [
          | in-Running w ↦ rw (w.task-is, ← (rw w.in-Running.is at was)) w.join-task.ensures
          | in-Ended w ↦ rw w.task-is (rw w.in-Ended.is at was)
        ]));
        count = grind (arith, common_steps, now.count, c.remove.ensures.len, c.push_reserved.ensures.len);
        room = grind (arith, now.room, c.push_reserved.ensures.capacity);
      },
    )

pub returns : goal.returns
returns g c tasks were =
    let i = c.loop-spawned.invariant in
    let none : vec_items c.loop-spawned.spawned ≡ [] = nil_from_length _ (grind (arith, common_steps)) in
    let whole : i.0 ≡ vec_items c.args.spawned.now = none_left _ _ _ i.1.whole none in
    let Both : g.row.J.Denot → g.row.J.Denot → Type 0 = λ task out. (b : Spawned g.row.J.Denot) × IsSpawned g.J.Task.gives task b
    × ((t : g.row.J.Denot) → IsSpawned g.J.Task.gives t b → g.J.Task.gives t out) in
    zip_same Both _ _ _ (λ task out h. h.2 task h.1) (zip_both _ _ _ _ _ were (rw whole at i.1.each))
