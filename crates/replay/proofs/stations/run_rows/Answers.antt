use Rattle.std.proofs.Common.{◌≡◌, ◌∙◌, None, Some, Err, ap, inl, inr, sym, vec_items}
use Rattle.replay.specs.{ThreadsStations.{small_fault, IsStationOf}, ThreadsReport.{is_opened, opened_devices}}
use Rattle.replay.proofs.{DistinctNumbers.rising-numbers, StationFacts.{ends-of, none-small, ring-of, small-unwritten}}
use Rattle.replay.proofs.StationFacts.{told-outside, told-unwritten}
use Rattle.replay.proofs.stations.run_rows.Goals as goal

pub run_workers-requires-clause-numbers : goal.run_workers-requires-clause-numbers
unfolding opened_devices
run_workers-requires-clause-numbers g c κs within =
    rising-numbers (IsStationOf c.args.rows.now) (λ number station of. of.its_number) (is_opened c.args.rows.now) 16 1
    (vec_items c.in_ok-stations.stations) c.in_ok-stations.ensures.stations

pub returns-in-Some-clause-fault : goal.returns-in-Some-clause-fault
returns-in-Some-clause-fault g c =
    let small : small_fault (vec_items c.in_ok-stations.stations) ≡ Some c.in-Some.fault =
    rw c.deref.ensures.value at (sym c.ring_fault.ensures ∙ c.in-Some.is) in
    inr (ring-of c.args.rows.now _ _ c.in_ok-stations.ensures.stations ∙ small)

pub returns-in-Some-clause-unwritten : goal.returns-in-Some-clause-unwritten
returns-in-Some-clause-unwritten g c =
    small-unwritten (vec_items c.in_ok-stations.stations) c.in-Some.fault
    (rw c.deref.ensures.value at (sym c.ring_fault.ensures ∙ c.in-Some.is))

pub returns-in-Ok-clause-ends : goal.returns-in-Ok-clause-ends
returns-in-Ok-clause-ends g c =
    let none : small_fault (vec_items c.in_ok-stations.stations) ≡ None =
    rw c.deref.ensures.value at (sym c.ring_fault.ensures ∙ c.in_default.is) in
    ends-of _ c.args.rows.now _ _ _ c.requires.accepted c.requires.count
    c.in_ok-stations.ensures.stations (none-small (vec_items c.in_ok-stations.stations) none) c.in-Ok.ensures.finished

pub returns-in-Ok-clause-polled : goal.returns-in-Ok-clause-polled
returns-in-Ok-clause-polled g c =
    record { stations = _; are = c.in_ok-stations.ensures.stations; polled = c.in-Ok.ensures.polled }

pub returns-in-Ok-clause-rings : goal.returns-in-Ok-clause-rings
returns-in-Ok-clause-rings g c =
    let none : small_fault (vec_items c.in_ok-stations.stations) ≡ None =
    rw c.deref.ensures.value at (sym c.ring_fault.ensures ∙ c.in_default.is) in
    ring-of c.args.rows.now _ _ c.in_ok-stations.ensures.stations ∙ none

pub returns-in-Err-clause-fault : goal.returns-in-Err-clause-fault
returns-in-Err-clause-fault g c =
    inl (told-outside _ c.in-Err.fault _ (λ is. c.run_workers.ensures.gate (c.in-Err.is ∙ ap Err is))
    (λ is. c.run_workers.ensures.spawn (c.in-Err.is ∙ ap Err is)) c.work_fault.ensures)

pub returns-in-Err-clause-unwritten : goal.returns-in-Err-clause-unwritten
returns-in-Err-clause-unwritten g c = told-unwritten c.in-Err.fault _ c.work_fault.ensures
