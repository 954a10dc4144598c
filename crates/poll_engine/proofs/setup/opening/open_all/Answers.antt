use Rattle.std.proofs.{Common.{◌≡◌, [], length, ◌<◌, get_or, vec_items, rules, arith}, lemmas.Grind.common_steps}
use Rattle.{std.proofs.{lemmas.List.nil_from_length, lemmas.Slice.Zip.all_zipped_more}, std.specs.Vec.Iter.into_iter_items}
use Rattle.poll_engine.proofs.ListFacts.{before_more, none_left}
use Rattle.poll_engine.proofs.setup.opening.open_all.Goals as goal

pub loop-station-init : goal.loop-station-init
loop-station-init g c =
    let no_placed : vec_items c.args.placed.now ≡ [] = nil_from_length _ (grind (arith, common_steps)) in
    let no_loose : vec_items c.args.loose.now ≡ [] = nil_from_length _ (grind (arith, common_steps)) in record {
      can = tt;
      ends = tt;
      all = search rules;
      left = search rules;
      count = search rules;
      as_count = search rules;
      room = c.requires.placed.1;
      as_room = c.requires.loose.1;
      made = rw no_loose tt;
      sides = rw (no_loose, no_placed) tt;
    }

pub open-requires : goal.open-requires
open-requires g c =
    let more = before_more _ _ _ _ _ c.loop-station.invariant.all c.in-Some.ensures.steps.0 in
    let below : length c.loop-station.yielded < length (vec_items c.args.stations) = more.0 in
    let same : get_or (vec_items c.args.stations) (length c.loop-station.yielded) c.in-Some.station ≡ c.in-Some.station = more.1 in
    rw (← same) (c.requires.stations (length c.loop-station.yielded) c.in-Some.station below)

pub loop-station-preserved : goal.loop-station-preserved
loop-station-preserved g c =
    let now = c.loop-station.invariant in
    let more = before_more _ _ _ _ _ now.all c.in-Some.ensures.steps.0 in record {
      can = tt;
      ends = tt;
      all = more.2;
      left = grind (arith, common_steps, now.left, c.in-Some.ensures.steps.1);
      count = grind (arith, common_steps, now.count, c.push_reserved.ensures.len);
      as_count = grind (arith, common_steps, now.as_count, c.push_reserved-in-loop-station.ensures.len);
      room = search rules;
      as_room = search rules;
      made = rw c.push_reserved-in-loop-station.ensures.items
          (all_zipped_more _ _ _ _ _ now.made (rw c.new-in-loop-station.ensures c.in_ok-one.ensures.loose));
      sides =
          rw (c.push_reserved-in-loop-station.ensures.items, c.push_reserved.ensures.items)
          (all_zipped_more _ _ _ _ _ now.sides (rw (c.new-in-loop-station.ensures, c.new.ensures) c.in_ok-one.ensures.side));
    }

pub returns-clause-loose : goal.returns-clause-loose
returns-clause-loose g c =
    let now = c.loop-station.invariant in
    let empty : into_iter_items c.loop-station.station-iterator ≡ [] =
    nil_from_length _ (grind (arith, common_steps, c.loop-station.station-iterator.rest.ok, c.in-None.ensures.steps.0)) in
    let whole = none_left _ _ _ now.all empty in
    rw (← whole) now.made
