-- Polls, and functions on lists of polls.
use Rattle.std.specs.Prelude.{◌≡◌, ℕ, Bool, true, false, List, [], ◌∷◌, map, filter, sum_by}
use Rattle.poll_runs.specs.declared.bench.Next.{Next}
use Rattle.poll_runs.specs.declared.bench.{Next.TheVariants.{Absent, Gone, Again, Repoll}, Once.Once}
use Rattle.napi_model.specs.declared.state.Kind.TheVariants as kind

-- a poll in a run: the number of the instance, and the outcome
pub record Poll : Type 0 where
  pub id : ℕ
  pub once : Once

-- one poll with this weight, by the bench's relation
abbrev pub At : {B : Type 0} → (B → ℕ → ℕ → Once → B → Type 0) → ℕ → B → Poll → B → Type 0
At polls weight before poll after = polls before poll.id weight poll.once after

-- these polls, in sequence, lead from one bench to the other
abbrev pub Chain : {A B : Type 0} → (B → A → B → Type 0) → B → List A → B → Type 0
Chain leads before [] after = after ≡ before
Chain {B = B} leads before (poll ∷ polls) after = (next : B) × leads before poll next × Chain leads next polls after

-- the poll queued its instance on the list (`____napi_schedule`)
abbrev pub is_arrival : Next → Bool
is_arrival (Again kind.List) = true
is_arrival (Again kind.Thread) = false
is_arrival Absent = false
is_arrival Gone = false
is_arrival Repoll = false

-- the poll asked for a repoll of its instance (`napi_poll`, onto `repoll`)
abbrev pub is_repoll : Next → Bool
is_repoll Repoll = true
is_repoll (Again k) = false
is_repoll Absent = false
is_repoll Gone = false

-- the numbers that were polled
abbrev pub ids : List Poll → List ℕ
ids polls = map (λ poll. poll.id) polls

-- the numbers that these polls queued on the list, in order
abbrev pub queued_by : List Poll → List ℕ
queued_by polls = ids (filter (λ poll. is_arrival poll.once.next) polls)

-- the numbers for which these polls asked for a repoll, in order
abbrev pub repolled : List Poll → List ℕ
repolled polls = ids (filter (λ poll. is_repoll poll.once.next) polls)

-- the sum of the packets that these polls returned
abbrev pub work_of : List Poll → ℕ
work_of polls = sum_by (λ poll. poll.once.work) polls
