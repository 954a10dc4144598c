-- The effect of each call on a run and on its list, for a caller that makes the polls.
use Rattle.std.specs.Prelude.{◌≡◌, ℕ, Bool, List, [], ◌∷◌, Option, None, MatchOption}
use Rattle.poll_runs.specs.{Run.is_squeezed, Turn.{Refills, TakesBatch}}
use Rattle.poll_runs.specs.declared.polling_run.PollingRun.{PollingRun}

-- the run is squeezed if it ends now
abbrev pub has_spent : PollingRun → Bool
has_spent run = is_squeezed run.budget run.window run.polls run.work

-- nothing was taken yet
pub record HoldsNothing (run : PollingRun) : Type 0 where
  pub own : run.own ≡ []
  pub repoll : run.repoll ≡ []
  pub asked : run.asked ≡ None
  pub polls : run.polls ≡ 0
  pub work : run.work ≡ 0

-- a run begins with the entries of one splice, and no polls
pub record Begins {L : Type 0} (entries : L → List ℕ) (moves : L → List ℕ → List ℕ → ℕ → L → Type 0) (is_all : List ℕ → L → Type 0)
    (before : L) (run : PollingRun) (after : L) : Type 0 where
  pub takes : TakesBatch entries moves is_all before run.own after
  pub repoll : run.repoll ≡ []
  pub polls : run.polls ≡ 0
  pub work : run.work ≡ 0

-- the run's own list is refilled if the rules allow it, and the result is the first number of that list, if there is one
pub record Asks {L : Type 0} (entries : L → List ℕ) (moves : L → List ℕ → List ℕ → ℕ → L → Type 0) (is_all : List ℕ → L → Type 0)
    (has_room : L → ℕ → Type 0) (run : PollingRun) (list : L) (answer : Option ℕ) (own : List ℕ) (after : L) : Type 0 where
  pub filled : List ℕ
  pub refills : Refills entries moves is_all has_room run.own list run.repoll filled after
  pub first : MatchOption answer ((filled ≡ []) × (own ≡ [])) (λ id. filled ≡ id ∷ own)
