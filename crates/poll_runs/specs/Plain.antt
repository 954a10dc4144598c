-- The relations of a list of one thread.
use Rattle.std.specs.Prelude.{◌≡◌, ℕ, ◌+◌, ◌<◌, ◌≤◌, List, length}

-- all entries of the list
abbrev pub all_held : List ℕ → List ℕ
all_held list = list

-- only the poller's own pushes arrive
abbrev pub OwnPushes : List ℕ → List ℕ → List ℕ → ℕ → List ℕ → Type 0
OwnPushes before pushed came found after = came ≡ pushed

-- no entry is left in the list
abbrev pub NothingBehind : List ℕ → List ℕ → Type 0
NothingBehind taken after = Unit

-- at most 64 entries are in the list and in the poller's own lists together
abbrev pub HasListRoom : List ℕ → ℕ → Type 0
HasListRoom list more = length list + more ≤ 64

abbrev pub CanPush : List ℕ → Type 0
CanPush list = length list < 64
