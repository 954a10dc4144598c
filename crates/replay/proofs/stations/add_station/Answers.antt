use Rattle.std.proofs.Common.{◌≡◌, ◌∙◌, true, Some, ap, sym}
use Rattle.{std.specs.Prelude.is_some, replay.specs.{Script.opening_of, ThreadsReport.is_opened}, replay.proofs.StationFacts.station-here}
use Rattle.replay.proofs.stations.add_station.Goals as goal

pub returns-in_ok-push-clause-stations : goal.returns-in_ok-push-clause-stations
returns-in_ok-push-clause-stations c rows same its devices before =
    let found : opening_of c.args.number rows ≡ Some c.in-Some.opening = sym same ∙ sym c.opening_of.ensures ∙ c.in-Some.is in
    let is : is_opened rows c.args.number ≡ true = ap (λ o. is_some o) found in
    rw c.in_ok-push.ensures.items
    (station-here rows c.args.number devices _ c.in_ok-station_of.field-0 is (c.in_ok-station_of.ensures.station rows found its) before)
