use Rattle.std.proofs.Common.{◌≡◌, ◌∷◌, ◌++◌, [], vec_items, arith}
use Rattle.std.{specs.Vec.Iter.into_iter_items, proofs.lemmas.{Grind.common_steps, List.nil_from_length, Slice.Zip.all_zipped_more}}
use Rattle.poll_engine.proofs.ListFacts.{before_more, none_left}
use Rattle.poll_engine.proofs.setup.opening.end_all.Goals as goal

pub loop-other-init : goal.loop-other-init
loop-other-init g c =
    let none : vec_items c.args.room ≡ [] = nil_from_length _ (grind (arith, common_steps)) in (
      [],
      record {
        whole = c.into_iter-others.ensures.rest;
        ends = rw none tt;
        beside = rw (c.into_iter-others.ensures.rest, c.into_iter-all.ensures.rest) c.requires.parts;
        count = grind (arith, common_steps);
        room = c.requires.room.1;
      },
    )

pub end-requires : goal.end-requires
end-requires g c =
    let side = rw (c.in-Some.ensures.items, c.in-Some-next.ensures.items) at c.loop-other.invariant.1.beside in
    rw (c.open.ensures, c.open-in-Some.ensures) side.0

pub loop-other-preserved : goal.loop-other-preserved
loop-other-preserved g c =
    let i = c.loop-other.invariant in
    let now = i.1 in
    let side = rw (c.in-Some.ensures.items, c.in-Some-next.ensures.items) at now.beside in
    let more = before_more _ _ _ _ _ now.whole c.in-Some.ensures.items in (
      i.0 ++ c.in-Some.other ∷ [],
      record {
        whole = more.2;
        ends = rw c.push_reserved.ensures.items (all_zipped_more _ _ _ _ _ now.ends (rw (← c.open-in-Some.ensures) c.end.ensures));
        beside = side.1;
        count = grind (arith, common_steps, now.count, c.in-Some.ensures.len, c.push_reserved.ensures.len);
        room = grind (arith, now.room, c.push_reserved.ensures.capacity);
      },
    )

pub returns : goal.returns
returns g c =
    let now = c.loop-other.invariant.1 in
    let empty : into_iter_items c.loop-other.others ≡ [] =
    nil_from_length _ (grind (arith, common_steps, c.loop-other.others.rest.ok, c.in_default.ensures.len)) in
    let whole = none_left _ _ _ now.whole empty in
    rw (← whole) now.ends
