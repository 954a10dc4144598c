-- The polling of an instance by its thread (`napi_threaded_poll`).
use Rattle.std.specs.{Prelude.{◌≡◌, ◌≢◌, ℕ, ◌<◌, ◌≤◌, Bool, true, false, List, [], ◌∷◌, length, sum_by}, List.AllByRecursion}
use Rattle.poll_runs.specs.declared.bench.{Next.{Next, TheVariants.{Absent, Gone, Again, Repoll}}, Once.Once, ThreadReport.ThreadReport}
use Rattle.napi_model.specs.declared.state.Kind.TheVariants as kind

-- the thread may poll again: it still owns the instance, or the instance was queued for it again
abbrev pub is_for_thread : Next → Bool
is_for_thread Repoll = true
is_for_thread (Again kind.Thread) = true
is_for_thread (Again kind.List) = false
is_for_thread Absent = false
is_for_thread Gone = false

-- how the last of these polls ended; Absent if there is none
abbrev pub last_next : List Once → Next
last_next [] = Absent
last_next (once ∷ []) = once.next
last_next (once ∷ (second ∷ more)) = last_next (second ∷ more)

-- each poll but the last leaves the instance to the thread
abbrev pub ThreadContinues : List Once → Type 0
ThreadContinues [] = Unit
ThreadContinues (once ∷ []) = Unit
ThreadContinues (once ∷ (second ∷ more)) = (is_for_thread once.next ≡ true) × ThreadContinues (second ∷ more)

-- A thread's polling, by these polls. There are fewer than `most` only if the last one didn't leave the instance to the thread,
-- or a take found nothing. After a repoll there is no take, because the thread still owns the instance.
pub record IsThreadPolling (weight most : ℕ) (polls : List Once) (report : ThreadReport) : Type 0 where
  pub within : length polls ≤ most
  -- a take that finds nothing isn't a poll
  pub each : AllByRecursion (λ once. (once.work ≤ weight) × (once.next ≢ Absent)) polls
  pub continues : ThreadContinues polls
  pub fewer : length polls < most → last_next polls ≢ Repoll
  pub count : report.polls ≡ length polls
  pub sum : report.work ≡ sum_by (λ once. once.work) polls
  pub last : report.next ≡ last_next polls

-- a bench without threads: there are no polls, and the bench is unchanged
abbrev pub NoThreadPolls : {B : Type 0} → B → ℕ → ℕ → ℕ → List Once → B → Type 0
NoThreadPolls before id weight most polls after = (polls ≡ []) × (after ≡ before)
