-- The effect on its output of a call that computes a text from an input. Input and output are represented by their bytes, if
-- these are known.
use Rattle.std.specs.{Prelude.{◌≡◌, ◌≢◌, ◌<◌, ◌⊎◌, ℕ, List, Option, Some, length, take}, Io.KnownBytes.{Appends, Keeps}}
use Rattle.text_io.specs.declared.fault.ReplayFault.{ReplayFault}
use Rattle.text_io.specs.declared.fault.ReplayFault.TheVariants.{OutputFailed}

-- the bytes written are a text for the bytes read
abbrev pub Writes : (List ℕ → List ℕ → Type 0) → Option (List ℕ) → Option (List ℕ) → Option (List ℕ) → Type 0
Writes IsText input old new = (bytes : List ℕ) → input ≡ Some bytes → (text : List ℕ) × IsText bytes text × Appends old new text

-- an error is one that the bytes read have, or one that isn't in them
abbrev pub IsFaultBy : {F : Type 0} → (F → Type 0) → (List ℕ → F → Type 0) → Option (List ℕ) → F → Type 0
IsFaultBy IsOutside IsFault input fault = (bytes : List ℕ) → input ≡ Some bytes → IsOutside fault ⊎ IsFault bytes fault

-- a proper prefix of these bytes was appended
abbrev pub AppendsPart : Option (List ℕ) → Option (List ℕ) → List ℕ → Type 0
AppendsPart old new bytes = (n : ℕ) × (n < length bytes) × Appends old new (take n bytes)

-- there is a text for the bytes read, of which a proper prefix was written
abbrev pub WritesPart : (List ℕ → List ℕ → Type 0) → Option (List ℕ) → Option (List ℕ) → Option (List ℕ) → Type 0
WritesPart IsText input old new = (bytes : List ℕ) → input ≡ Some bytes → (text : List ℕ) × IsText bytes text × AppendsPart old new text

-- if the output failed, a part of a text for the bytes read was written; after any other error, nothing was
abbrev pub LeavesBy : {F : Type 0} → F → (List ℕ → List ℕ → Type 0) → Option (List ℕ) → Option (List ℕ) → Option (List ℕ) → F → Type 0
LeavesBy failed IsText input old new fault = (fault ≡ failed → WritesPart IsText input old new) × (fault ≢ failed → Keeps old new)

abbrev pub LeavesText : (List ℕ → List ℕ → Type 0) → Option (List ℕ) → Option (List ℕ) → Option (List ℕ) → ReplayFault → Type 0
LeavesText IsText = LeavesBy OutputFailed IsText
