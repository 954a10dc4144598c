-- The state of a polling run between its polls, for a caller that makes the polls.
use Rattle.std.specs.Prelude.{◌≡◌, ◌≢◌, ◌⊎◌, ℕ, ◌+◌, ◌<◌, ◌≤◌, ◌==◌, ◌||◌, Bool, false, List, [], ◌∷◌, ◌++◌, length, take}
use Rattle.std.specs.List.{AllByRecursion}
use Rattle.{std.specs.List.{concat, list_any}, poll_runs.specs.{Polls.{Poll, queued_by, ids, repolled, work_of}, Run.{AreBatches, IsBatch}}}
use Rattle.poll_runs.specs.{Batches.empties_of, Run.is_spent, Turn.asked_for, declared.{bench.Once.Once, polling_run.PollingRun.PollingRun}}

-- the numbers that were taken from the list and not polled yet: the one whose poll is in progress, then the rest
abbrev pub ahead : PollingRun → List ℕ
ahead run = asked_for run.asked ++ run.own

-- how many numbers the run holds, which will return to the list
abbrev pub held : PollingRun → ℕ
held run = length (asked_for run.asked ++ run.own) + length run.repoll

-- the number is in the run, to be polled or to be put back
abbrev pub in_run : PollingRun → ℕ → Bool
in_run run id = list_any (λ other. other == id) run.own || list_any (λ other. other == id) run.repoll

-- budget, weight and window don't change
pub record SameSettings (before after : PollingRun) : Type 0 where
  pub budget : after.budget ≡ before.budget
  pub weight : after.weight ≡ before.weight
  pub window : after.window ≡ before.window

-- The state of a run over a list, after these polls: the batches that it took, and all arrivals so far. Each poll and each
-- batch is one that the rules of a polling run allow.
pub record Going {L : Type 0} (entries : L → List ℕ) (moves : L → List ℕ → List ℕ → ℕ → L → Type 0) (is_all : List ℕ → L → Type 0)
    (budget window : ℕ) (start : L) (polls : List Poll) (list : L) (ahead repoll : List ℕ) (count sum : ℕ) : Type 0 where
  pub first : List ℕ
  pub further : List (List ℕ)
  pub came : List ℕ
  pub batches : AreBatches (IsBatch entries moves is_all budget window start) polls [] (first ∷ further)
  pub not_empty : AllByRecursion (λ batch. batch ≢ []) further
  pub front : ids polls ++ ahead ≡ first ++ concat further
  pub found : ℕ
  pub moved : moves start (queued_by polls) came found list
  pub emptied : empties_of (first ∷ further) ≤ found
  pub joined : (first ++ concat further) ++ entries list ≡ entries start ++ came
  pub again : repoll ≡ repolled polls
  pub goes_on : (n : ℕ) → n < length polls → is_spent budget window (take n polls) ≡ false
  pub counted : count ≡ length polls
  pub summed : sum ≡ work_of polls

-- the same, with the fields of this run
abbrev pub IsGoing : {L : Type 0} → (L → List ℕ) → (L → List ℕ → List ℕ → ℕ → L → Type 0) → (List ℕ → L → Type 0) → L → List Poll → L
    → PollingRun → Type 0
IsGoing entries moves is_all start polls list run =
    Going entries moves is_all run.budget run.window start polls list (ahead run) run.repoll run.polls run.work

-- the run makes no further poll: the budget or the window is used up, or all entries are polled and a repoll is pending or one
-- more batch would be empty
abbrev pub IsOver : {L : Type 0} → (L → List ℕ) → (L → List ℕ → List ℕ → ℕ → L → Type 0) → (List ℕ → L → Type 0) → L → List Poll
    → PollingRun → Type 0
IsOver entries moves is_all start polls run =
    is_spent run.budget run.window polls ≡ false
    → (ahead run ≡ []) × ((repolled polls ≢ []) ⊎ IsBatch entries moves is_all run.budget run.window start polls [])

-- these polls and one more, of this number
abbrev pub and_poll : List Poll → ℕ → Once → List Poll
and_poll polls id once = polls ++ record { id = id; once = once } ∷ []
