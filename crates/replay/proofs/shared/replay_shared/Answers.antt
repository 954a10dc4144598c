use Rattle.std.proofs.Common.{◌≡◌, ℕ, List, OnOk, Option, Result, Ok, Err, subst, sym}
use Rattle.std.specs.Prelude.{IfErr}
use Rattle.device_bench.specs.DeviceBench.{devices_of}
use Rattle.replay_rows.specs.Answer.{OpensDevices}
use Rattle.text_io.specs.{Written.{LeavesText, Writes}, declared.fault.ReplayFault.ReplayFault}
use Rattle.replay.proofs.shared.replay_shared.Goals as goal

implied : {T E P Q : Type 0} (r : Result T E) → (P → Q) → OnOk r P → OnOk r Q
implied (Ok x) f h = f h
implied (Err e) f h = h

-- a bench of shared instances isn't exact
leaves : {T : Type 0} (P : List ℕ → List ℕ → Type 0) (input old new : Option (List ℕ)) (r : Result T ReplayFault)
    → IfErr r (LeavesText P input old new) → IfErr r (LeavesText (λ bytes text. Unit {0}) input old new)
leaves P input old new (Ok x) h = h
leaves P input old new (Err e) h = (λ failed bytes is. (let p = h.0 failed bytes is in (p.0, tt, p.2)), h.1)

writes : (P : List ℕ → List ℕ → Type 0) (input old new : Option (List ℕ)) → Writes P input old new
    → Writes (λ bytes text. Unit {0}) input old new
writes P input old new h = λ bytes is. (let p = h bytes is in (p.0, tt, p.2))

pub returns-clause-written : goal.returns-clause-written
returns-clause-written g c = implied c.write_report-replayed.result (writes _ _ _ _) c.write_report-replayed.ensures.written

pub returns-clause-output : goal.returns-clause-output
returns-clause-output g c = leaves _ _ _ _ c.write_report-replayed.result c.write_report-replayed.ensures.output

pub returns-clause-run : goal.returns-clause-run
returns-clause-run g c =
    implied c.write_report-replayed.result (λ opens. (
      devices_of c.into_bench.result,
      c.end-ends.result,
      subst (λ b. OpensDevices (g.R.Read.remaining c.args.reader) (devices_of b)) (sym c.into_bench.ensures) opens,
      c.end-ends.ensures,
    )) c.write_report-replayed.ensures.opened
