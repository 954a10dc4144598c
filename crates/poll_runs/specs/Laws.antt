-- Laws of runs over a list of one thread.
use Rattle.std.specs.Prelude.{◌≡◌, ℕ, ◌≤◌, List, [], ◌∷◌, ◌++◌, length, take, drop}
use Rattle.poll_runs.specs.Plain.{NothingBehind, OwnPushes}
use Rattle.poll_runs.specs.{Plain.all_held, Polls.{At, Chain, Poll, queued_by, ids, repolled}, Run.IsRun, declared.bench.Once.Once}
use Rattle.poll_runs.specs.declared.run.RunReport.{RunReport}

-- a run over a list of one thread
abbrev pub IsPlainRun : ℕ → ℕ → List ℕ → List Poll → List ℕ → RunReport → Type 0
IsPlainRun = IsRun all_held OwnPushes NothingBehind

-- each batch is what the polls of the previous batch queued on the list; the polls begin with those of the first batch
abbrev pub FollowEachOther : List Poll → List ℕ → List (List ℕ) → Type 0
FollowEachOther polls batch [] = Unit
FollowEachOther polls batch (next ∷ more) =
    (next ≡ queued_by (take (length batch) polls)) × FollowEachOther (drop (length batch) polls) next more

-- law: on a list of one thread, the only arrivals are those of the run's own polls
abbrev pub NoOtherArrivals : Type 0
NoOtherArrivals =
    (budget window : ℕ) (start after : List ℕ) (polls : List Poll) (report : RunReport)
    → (run : IsPlainRun budget window start polls after report)
    → (run.first ≡ start) × FollowEachOther polls run.first run.further × (run.came ≡ queued_by polls)

-- law: the numbers polled are a prefix of the initial list followed by the polls' own arrivals; the rest of it is on the list
-- afterwards, before the repolls, and the list isn't longer than before
abbrev pub PlainListAfterwards : Type 0
PlainListAfterwards =
    (budget window : ℕ) (start after : List ℕ) (polls : List Poll) (report : RunReport)
    → IsPlainRun budget window start polls after report
    → (ids polls ≡ take (length polls) (start ++ queued_by polls))
    × (after ≡ drop (length polls) (start ++ queued_by polls) ++ repolled polls)
    × (length after ≤ length start)

-- a poll has one outcome: the same poll of the same bench returns the same result and leaves the same bench
abbrev pub HasOneOutcome : {B : Type 0} → (B → ℕ → ℕ → Once → B → Type 0) → Type 0
HasOneOutcome {B} polls =
    (before after last : B) (id weight : ℕ) (once other : Once)
    → polls before id weight once after → polls before id weight other last → (once ≡ other) × (after ≡ last)

-- law: if each poll has one outcome, so has each run over a list of one thread
abbrev pub RunsAgree : {B : Type 0} → (B → ℕ → ℕ → Once → B → Type 0) → Type 0
RunsAgree {B} relation =
    HasOneOutcome relation
    → (budget weight window : ℕ) (bench : B) (list : List ℕ) (polls others : List Poll) (after last : B) (left kept : List ℕ)
    (report other : RunReport)
    → Chain (At relation weight) bench polls after → IsPlainRun budget window list polls left report
    → Chain (At relation weight) bench others last → IsPlainRun budget window list others kept other
    → (polls ≡ others) × (after ≡ last) × (left ≡ kept) × (report ≡ other)
