-- A table of at most sixteen devices by number: it has the entries 0 to 16, and entry 0 stays empty.
use Rattle.std.specs.Prelude.{ℕ, List, Option, Some, None, replicate, slice_index_or, slice_set}

abbrev pub DeviceTable : Type 0 → Type 0
DeviceTable A = List (Option A)

abbrev pub empty : {A : Type 0} → DeviceTable A
empty = replicate 17 None

-- the entry of a number, if there is one
abbrev pub at : {A : Type 0} → ℕ → DeviceTable A → Option A
at number places = slice_index_or places number None

-- changes the entry of a number, if it has one
abbrev pub changed_from : {A : Type 0} → (A → A) → ℕ → Option A → DeviceTable A → DeviceTable A
changed_from change number None places = places
changed_from change number (Some a) places = slice_set places number (Some (change a))

abbrev pub changed : {A : Type 0} → (A → A) → ℕ → DeviceTable A → DeviceTable A
changed change number places = changed_from change number (at number places) places

-- adds an entry, unless the number has one already
abbrev pub added_at : {A : Type 0} → ℕ → A → Option A → DeviceTable A → DeviceTable A
added_at number a None places = slice_set places number (Some a)
added_at number a (Some b) places = places

abbrev pub added : {A : Type 0} → ℕ → A → DeviceTable A → DeviceTable A
added number a places = added_at number a (at number places) places
