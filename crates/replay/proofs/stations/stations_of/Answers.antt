use Rattle.std.proofs.{Common.{◌≡◌, ◌∙◌, ◌-◌, [], subst, sym, arith, vec_items, ℕ}, lemmas.List.get_or-set_other}
use Rattle.std.specs.{Prelude.filter, List.{AllZip, range_with_len}}
use Rattle.replay.specs.{Dealing.lists, Script.is_act_of, ThreadsStations.IsStationOf, ThreadsReport.{is_opened, opened_devices}}
use Rattle.replay.proofs.{OpeningFacts.opened-within, Rows.filter-long, StationFacts.{opened-more, opening-among, script-at}}
use Rattle.replay.proofs.stations.stations_of.Goals as goal

pub add_station-requires-clause-places : goal.add_station-requires-clause-places
add_station-requires-clause-places c opening found =
    opened-within _ c.args.rows.now c.loop-number.number opening c.requires.accepted
    (sym (opening-among c.args.rows.now _ c.loop-number.number (c.deref.ensures.value ∙ c.in_ok-openings.ensures)) ∙ found)

pub add_station-requires-clause-count : goal.add_station-requires-clause-count
add_station-requires-clause-count c =
    let long = filter-long (is_act_of c.loop-number.number) c.args.rows.now in
    let all = c.requires.count in
    rw (script-at c.args.rows.now (lists c.loop-number.scripts) c.loop-number.number _ (omega arith)
    (omega arith) c.take_script-script.ensures.script c.loop-number.invariant.scripts) (omega (arith, long, all))

pub loop-number-preserved : goal.loop-number-preserved
loop-number-preserved c =
    let now = c.loop-number.invariant in
    record {
      of = rw (opened-more c.args.rows.now c.loop-number.number (omega arith))
          (c.in_ok-add_station.ensures.stations c.args.rows.now
          (opening-among c.args.rows.now _ c.loop-number.number (c.deref.ensures.value ∙ c.in_ok-openings.ensures))
          (script-at c.args.rows.now (lists c.loop-number.scripts) c.loop-number.number _ (omega arith)
          (omega arith) c.take_script-script.ensures.script now.scripts) _ now.of);
      lawful = c.in_ok-add_station.ensures.lawful now.lawful;
      scripts =
          λ place later below. rw c.take_script-script.ensures.scripts
          (get_or-set_other (lists c.loop-number.scripts) (c.loop-number.number - 1) place [] [] (omega (arith, later))
          ∙ now.scripts place (omega (arith, later)) below);
      count = c.take_script-script.ensures.count ∙ now.count;
    }

pub returns-clause-stations : goal.returns-clause-stations
unfolding opened_devices
returns-clause-stations c =
    let last : c.loop-number.number ≡ 17 = omega arith in
    subst (λ (n : ℕ). AllZip (IsStationOf c.args.rows.now) (filter (is_opened c.args.rows.now) (range_with_len 1 (n - 1)))
    (vec_items c.loop-number.stations)) last c.loop-number.invariant.of
