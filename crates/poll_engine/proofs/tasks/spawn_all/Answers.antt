use Rattle.std.proofs.Common.{◌≡◌, ◌≤◌, ◌∷◌, ◌++◌, [], length, vec_items, rules, refl, arith}
use Rattle.std.proofs.lemmas.{Grind.common_steps, List.nil_from_length, Slice.Zip.all_zipped_more}
use Rattle.poll_engine.proofs.ListFacts.{before_more, first_of, none_left}
use Rattle.poll_engine.proofs.tasks.spawn_all.Goals as goal

pub loop-spawned-init : goal.loop-spawned-init
loop-spawned-init g c =
    let none : vec_items c.args.spawned.now ≡ [] = nil_from_length _ (grind (arith, common_steps)) in (
      [],
      record {
        whole = refl;
        each = rw none tt;
        count = grind (arith, common_steps);
        room = grind (arith, common_steps);
        left = search rules;
      },
    )

pub loop-spawned-preserved : goal.loop-spawned-preserved
loop-spawned-preserved g c =
    let i = c.loop-spawned.invariant in
    let now = i.1 in
    let some : 1 ≤ length (vec_items c.loop-spawned.tasks) = grind (arith, common_steps) in
    let first = first_of (vec_items c.loop-spawned.tasks) (vec_items c.remove.new.self) c.remove.result some c.remove.ensures.value
    c.remove.ensures.items in
    let more = before_more _ _ _ _ _ now.whole first in (
      i.0 ++ c.remove.result ∷ [],
      record {
        whole = more.2;
        each = rw c.push_reserved.ensures.items (all_zipped_more _ _ _ _ _ now.each c.spawn.ensures);
        count = grind (arith, common_steps, now.count, c.remove.ensures.len, c.push_reserved.ensures.len);
        room = grind (arith, now.room, c.push_reserved.ensures.capacity);
        left = grind (arith, now.left, c.remove.ensures.capacity);
      },
    )

pub returns : goal.returns
returns g c =
    let i = c.loop-spawned.invariant in
    let now = i.1 in
    let none : vec_items c.loop-spawned.tasks ≡ [] = nil_from_length _ (grind (arith, common_steps)) in
    let whole = none_left _ _ _ now.whole none in
    record {
      each = rw (← whole) now.each;
      room = grind (arith, common_steps, now.count, now.left);
    }
