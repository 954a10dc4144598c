-- Lines that the report of every replay has. See docs/FORMATS.md, "The report".
use Rattle.std.specs.Prelude.{ℕ, Bool, List, [], ◌∷◌, ◌++◌, codes, if◌then◌else◌}

-- words separated by spaces
abbrev pub words : List (List ℕ) → List ℕ
words [] = []
words (word ∷ []) = word
words (word ∷ next ∷ more) = word ++ (32 ∷ words (next ∷ more))

-- each line ends with a line feed
abbrev pub with_newline : List ℕ → List ℕ
with_newline line = line ++ codes "\n"

abbrev pub flag : Bool → ℕ
flag b = if b then 1 else 0
