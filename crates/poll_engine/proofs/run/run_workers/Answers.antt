use Rattle.std.proofs.{Common.{◌≡◌, ◌∙◌, Bool, true, false, arith, refl, sym}, lemmas.Grind.common_steps, lemmas.Result.IfErr-at_err}
use Rattle.std.specs.{Borrow.Bor, Global.Vec, List.AllZip, Prelude.{Result, Ok, Err, IfErr, IfOk, vec_items}}
use Rattle.poll_engine.specs.{declared.station.Finished.Finished, Asks.IsAsked, WorkFaults.run_result, Refusals.IsRefused, Stops.IsStop}
use Rattle.poll_engine.specs.{Courses.{ArePolled, limits_of}, Finishes.IsFinished, declared.fault.WorkFault.WorkFault}
use Rattle.{poll_engine.specs.declared.fault.WorkFault.TheVariants.OutOfMemory, poll_engine.proofs.NumberFacts.few_stations}
use Rattle.poll_engine.proofs.run.run_workers.Goals as goal

pub run_all-came-requires-clause-count : goal.run_all-came-requires-clause-count
run_all-came-requires-clause-count g c = let few = few_stations _ c.requires.stations c.requires.numbers in
    grind (arith, common_steps, few)

-- a successful result of the run is the result of the whole call
result_ok : {A : Type 0} (P : A → Type 0) (came : Result A WorkFault) (refused : Bool) → IfOk came P → IfOk (run_result came refused) P
result_ok P (Ok a) false h = h
result_ok P (Ok a) true h = tt
result_ok P (Err OutOfMemory) refused h = tt
result_ok P (Err fault) true h = tt
result_ok P (Err fault) false h = tt

-- an error is returned only if its reason holds
result_why : {A : Type 0} (may_shut : Type 0) (came : Result A WorkFault) (refused : Bool) → (refused ≡ true → IsRefused)
    → IfErr came (IsStop may_shut) → IfErr (run_result came refused) (IsStop may_shut)
result_why may_shut (Ok a) false is why = tt
result_why may_shut (Ok a) true is why = is refl
result_why may_shut (Err OutOfMemory) refused is why = why
result_why may_shut (Err fault) true is why = is refl
result_why may_shut (Err fault) false is why = why

pub returns-clause-memory : goal.returns-clause-memory
returns-clause-memory g c failed = IfErr-at_err (IsStop g.G.Gate.may_shut) (sym c.run_result.ensures ∙ failed)
    (result_why _ _ _ c.is_refused.ensures c.run_all-came.ensures.why)

pub returns-clause-spawn : goal.returns-clause-spawn
returns-clause-spawn g c failed = IfErr-at_err (IsStop g.G.Gate.may_shut) (sym c.run_result.ensures ∙ failed)
    (result_why _ _ _ c.is_refused.ensures c.run_all-came.ensures.why)

pub returns-clause-gate : goal.returns-clause-gate
returns-clause-gate g c failed = IfErr-at_err (IsStop g.G.Gate.may_shut) (sym c.run_result.ensures ∙ failed)
    (result_why _ _ _ c.is_refused.ensures c.run_all-came.ensures.why)

pub returns-clause-polled : goal.returns-clause-polled
returns-clause-polled g c =
    let P : Vec (Finished g.row.D.Denot) → Type 0 =
    λ all. ArePolled (Bor g.row.R.Denot) (IsAsked g.G.Gate.answers c.args.gate.now) (limits_of c.args.budget c.args.weight c.args.window)
    g.D.Device.acts g.D.Device.answer g.D.Device.after c.args.pollers (vec_items c.args.stations) (vec_items all) in
    rw c.run_result.ensures
    (result_ok P _ _ (rw (c.new-context.ensures.gate, c.new-context.ensures.limits) at c.run_all-came.ensures.polled))

pub returns-clause-finished : goal.returns-clause-finished
returns-clause-finished g c =
    let P : Vec (Finished g.row.D.Denot) → Type 0 =
    λ all. AllZip (IsFinished g.D.Device.acts g.D.Device.answer g.D.Device.after (g.G.Gate.answers c.args.gate.now))
    (vec_items c.args.stations) (vec_items all) in
    rw c.run_result.ensures (result_ok P _ _ (rw c.new-context.ensures.gate at c.run_all-came.ensures.finished))
