use Rattle.std.proofs.Common.{◌≡◌, ℕ, List, Ok, Err, Option, true, refl}
use Rattle.std.specs.Prelude.{IfErr, Result}
use Rattle.text_io.specs.{Written.LeavesText, declared.fault.ReplayFault.ReplayFault}
use Rattle.replay_rows.proofs.serial.replay_serial.Goals as goal

-- a serial bench is exact
leaves : {T : Type 0} (P : List ℕ → List ℕ → Type 0) (input old new : Option (List ℕ)) (r : Result T ReplayFault)
    → IfErr r (LeavesText (λ bytes text. true ≡ true → P bytes text) input old new) → IfErr r (LeavesText P input old new)
leaves P input old new (Ok x) h = h
leaves P input old new (Err e) h = (λ failed bytes is. (let p = h.0 failed bytes is in (p.0, p.1 refl, p.2)), h.1)

pub returns-clause-output : goal.returns-clause-output
returns-clause-output g c = leaves _ _ _ _ c.write_report.result c.write_report.ensures.output
