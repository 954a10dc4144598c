-- The parts of one iteration of a polling run, which its proof combines.
use Rattle.std.specs.Prelude.{◌≡◌, ℕ, ◌+◌, ◌≤◌, Bool, true, false, List, [], ◌∷◌, ◌++◌, length, Option, None, Some}
use Rattle.poll_runs.specs.Batches.{empties}

-- the number whose poll is in progress, if there is one
abbrev pub asked_for : Option ℕ → List ℕ
asked_for None = []
asked_for (Some id) = id ∷ []

-- one splice: the entries that it takes, and the list afterwards
pub record TakesBatch {L : Type 0} (entries : L → List ℕ) (moves : L → List ℕ → List ℕ → ℕ → L → Type 0) (is_all : List ℕ → L → Type 0)
    (before : L) (given : List ℕ) (after : L) : Type 0 where
  pub came : List ℕ
  pub moved : moves before [] came (empties given) after
  pub gives : given ≡ entries before ++ came
  pub nothing_kept : entries after ≡ []
  pub all : is_all given after

-- one splice, and the room that it leaves
pub record Splices {L : Type 0} (entries : L → List ℕ) (moves : L → List ℕ → List ℕ → ℕ → L → Type 0) (is_all : List ℕ → L → Type 0)
    (has_room : L → ℕ → Type 0) (before : L) (given : List ℕ) (after : L) : Type 0 where
  pub takes : TakesBatch entries moves is_all before given after
  pub most : length given ≤ 64
  pub room : has_room after (length given)

-- a splice refills the own list if it is empty and no repoll is pending
abbrev pub Refills : {L : Type 0} → (L → List ℕ) → (L → List ℕ → List ℕ → ℕ → L → Type 0) → (List ℕ → L → Type 0) → (L → ℕ → Type 0)
    → List ℕ → L → List ℕ → List ℕ → L → Type 0
Refills entries moves is_all has_room (id ∷ own) list repoll filled after = (filled ≡ id ∷ own) × (after ≡ list)
Refills entries moves is_all has_room [] list (id ∷ repoll) filled after = (filled ≡ []) × (after ≡ list)
Refills entries moves is_all has_room [] list [] filled after = Splices entries moves is_all has_room list filled after

-- one push, what arrived, and the room that it takes
pub record PushesOne {L : Type 0} (entries : L → List ℕ) (moves : L → List ℕ → List ℕ → ℕ → L → Type 0) (has_room : L → ℕ → Type 0)
    (before : L) (id : ℕ) (after : L) : Type 0 where
  pub came : List ℕ
  pub moved : moves before (id ∷ []) came 0 after
  pub entries_after : entries after ≡ entries before ++ came
  pub room : (n : ℕ) → has_room before (n + 1) → has_room after n

-- a number is pushed if its poll queued it on the list; otherwise the list is unchanged
abbrev pub HandsOn : {L : Type 0} → (L → List ℕ) → (L → List ℕ → List ℕ → ℕ → L → Type 0) → (L → ℕ → Type 0) → L → Bool → ℕ → L → Type 0
HandsOn entries moves has_room before true id after = PushesOne entries moves has_room before id after
HandsOn entries moves has_room before false id after = after ≡ before
