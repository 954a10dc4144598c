-- The polling run (`net_rx_action`), defined by its batches. It is defined for any list that states three relations: its
-- entries; what was pushed and what arrived between two times; and that no entry was left in it.
use Rattle.std.specs.Prelude.{◌≡◌, ◌≢◌, ◌⊎◌, ℕ, ◌+◌, ◌<◌, ◌≤◌, Bool, ◌||◌, nat_le, false, List, [], ◌∷◌, ◌++◌, length, take}
use Rattle.std.specs.List.{AllByRecursion}
use Rattle.{std.specs.List.concat, poll_runs.specs.{Polls.{Poll, queued_by, ids, repolled, work_of}, declared.run.RunReport.RunReport}}
use Rattle.poll_runs.specs.Batches.{empties, empties_of}

-- A batch that a run takes after these polls consists of all entries of the list: together with the entries taken before, which
-- were all polled, it is the initial list followed by what arrived until then. A run takes it only if no poll asked for a
-- repoll, and neither the budget nor the window is used up.
pub record IsBatch {L : Type 0} (entries : L → List ℕ) (moves : L → List ℕ → List ℕ → ℕ → L → Type 0) (is_all : List ℕ → L → Type 0)
    (budget window : ℕ) (start : L) (earlier : List Poll) (batch : List ℕ) : Type 0 where
  pub when : L
  pub came : List ℕ
  pub found : ℕ
  pub moved : moves start (queued_by earlier) came found when
  -- entries were taken until the list was found empty, or 64 were taken
  pub emptied : empties batch ≤ found
  pub whole : ids earlier ++ batch ≡ entries start ++ came
  pub all : is_all batch when
  pub no_repoll : repolled earlier ≡ []
  pub left : (work_of earlier < budget) × (length earlier < window)

-- Batches in sequence, after the entries `taken`: each is taken after all earlier entries were polled.
abbrev pub AreBatches : (List Poll → List ℕ → Type 0) → List Poll → List ℕ → List (List ℕ) → Type 0
AreBatches takes polls taken [] = Unit
AreBatches takes polls taken (batch ∷ more) =
    (ids (take (length taken) polls) ≡ taken) × takes (take (length taken) polls) batch × AreBatches takes polls (taken ++ batch) more

-- the squeeze (`time_squeeze`): the work reached the budget, or the number of polls the window
abbrev pub is_squeezed : ℕ → ℕ → ℕ → ℕ → Bool
is_squeezed budget window polls work = nat_le budget work || nat_le window polls

abbrev pub is_spent : ℕ → ℕ → List Poll → Bool
is_spent budget window polls = is_squeezed budget window (length polls) (work_of polls)

-- A run over a list, with these polls: its first batch and the further ones, their unpolled rest, the arrivals that no batch
-- took, and all arrivals.
pub record IsRun {L : Type 0} (entries : L → List ℕ) (moves : L → List ℕ → List ℕ → ℕ → L → Type 0) (is_all : List ℕ → L → Type 0)
    (budget window : ℕ) (start : L) (polls : List Poll) (after : L) (report : RunReport) : Type 0 where
  pub first : List ℕ
  pub further : List (List ℕ)
  pub rest : List ℕ
  pub late : List ℕ
  pub came : List ℕ
  pub batches : AreBatches (IsBatch entries moves is_all budget window start) polls [] (first ∷ further)
  pub not_empty : AllByRecursion (λ batch. batch ≢ []) further
  -- the numbers polled are a prefix of the concatenated batches
  pub front : ids polls ++ rest ≡ first ++ concat further
  -- the batches and the late arrivals together are the initial list followed by the arrivals
  pub found : ℕ
  pub moved : moves start (queued_by polls) came found after
  -- a lower bound on how often the list was found empty: once for each batch and once when the rest was put back, except if 64
  -- entries were taken
  pub emptied : empties_of (first ∷ further) + empties (entries after) ≤ found
  pub joined : (first ++ concat further) ++ late ≡ entries start ++ came
  -- the list afterwards: the unpolled rest, the late arrivals, then the repolls
  pub left : entries after ≡ rest ++ late ++ repolled polls
  pub all : is_all (entries after) after
  -- it continues until the budget or the window is used up, which is the only cause of a squeeze
  pub goes_on : (n : ℕ) → n < length polls → is_spent budget window (take n polls) ≡ false
  pub squeezed : report.squeezed ≡ is_spent budget window polls
  -- without a squeeze it stops when all entries are polled and a repoll is pending or one more batch would be empty
  pub ends : report.squeezed ≡ false → (rest ≡ []) × ((repolled polls ≢ []) ⊎ IsBatch entries moves is_all budget window start polls [])
  pub count : report.polls ≡ length polls
  pub sum : report.work ≡ work_of polls
