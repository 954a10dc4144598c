-- What a call leaves that writes a text that depends on nothing read.
use Rattle.std.proofs.Common.{◌≡◌, refl, ℕ, List, Option, Result, Ok, Err, IfErr, OnErr, OnOk}
use Rattle.std.specs.Io.KnownBytes.{Appends}
use Rattle.machine.specs.declared.fault.MachineFault.{MachineFault}
use Rattle.machine.specs.declared.fault.MachineFault.TheVariants.{OutputFailed}
use Rattle.text_io.specs.{Stops.{HasStopped}, Written.{AppendsPart, LeavesBy, Writes}}

-- all of the text was written
pub about-written : {A : Type 0} → (r : Result A MachineFault) → (input old new : Option (List ℕ)) → (text : List ℕ)
    → OnOk r (Appends old new text) → OnOk r (Writes (λ bytes t. t ≡ text) input old new)
about-written (Ok u) input old new text all = λ bytes is. (text, refl, all)
about-written (Err fault) input old new text all = all

-- or the output failed, and a part of it was
pub about-output : {A : Type 0} → (r : Result A MachineFault) → (input old new : Option (List ℕ)) → (text : List ℕ)
    → IfErr r (λ fault. (fault ≡ OutputFailed) × HasStopped) → OnErr r (AppendsPart old new text)
    → IfErr r (LeavesBy OutputFailed (λ bytes t. t ≡ text) input old new)
about-output (Ok u) input old new text why cut = why
about-output (Err fault) input old new text why cut = ((λ is bytes read. (text, refl, cut)), (λ other. absurd (other why.0)))
