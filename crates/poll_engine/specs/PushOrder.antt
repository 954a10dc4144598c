-- The order of all pushes to a shared poll list, and what each of its ends knows of it. In the kernel this order is trivial:
-- `____napi_schedule` adds only to the poll_list of its own processor, with interrupts disabled (`net/core/dev.c`). Here
-- several threads push, and the steps of the queue determine the order.
use Rattle.std.specs.Prelude.{◌≡◌, ℕ, ◌+◌, ◌<◌, ◌≤◌, true, false, List, [], ◌∷◌, ◌++◌, map, length, nat_eq, if◌then◌else◌, ◌⊎◌}
use Rattle.{std.specs.List.sum_by, poll_engine.specs.{declared.list_rule.Returned.Returned, declared.list_rule.EndView.EndView}}
use mathlib.Core.Option.{some}
use lib.ListN.{get_elem?}

-- a push: the number of the instance, and of the end at which it was pushed
pub record Push : Type 0 where
  pub by : ℕ
  pub id : ℕ

abbrev pub push_of : ℕ → ℕ → Push
push_of number x = record { by = number; id = x }

-- the instances that were pushed, in order
abbrev pub ids_of : List Push → List ℕ
ids_of order = map (λ (p : Push). p.id) order

-- the instances that one end pushed, in order
abbrev pub pushes_by : ℕ → List Push → List ℕ
pushes_by number [] = []
pushes_by number (p ∷ ps) = if nat_eq p.by number then p.id ∷ pushes_by number ps else pushes_by number ps

-- one of these returned ends has this number
abbrev pub IsReturned : ℕ → List Returned → Type 0
IsReturned number returned = (k : ℕ) × (d : Returned) × (get_elem? returned k ≡ some d) × (d.number ≡ number)

-- how many pushes these returned ends made
abbrev pub returned_pushes : List Returned → ℕ
returned_pushes returned = sum_by (λ (d : Returned). length d.pushed) returned

-- What the poller knows of the order, while these instances are in the queue.
pub record KnowsOrder (v : EndView) (queued : List ℕ) : Type 0 where
  pub order : List Push
  -- the instances that it popped are the first part of the order, and those in the queue are the rest
  pub all : ids_of order ≡ v.popped ++ queued
  -- the order has exactly its own pushes, and exactly those of each returned end
  pub by_poller : v.pushed ≡ pushes_by v.number order
  pub by_others : (k : ℕ) (d : Returned) → get_elem? v.returned k ≡ some d → d.pushed ≡ pushes_by d.number order
  -- after all ends were returned, the order has no other pushes
  pub enough : length v.returned + 1 ≤ v.made
  pub nobody_else : length v.returned + 1 ≡ v.made → (number : ℕ)
      → (number ≡ v.number) ⊎ (IsReturned number v.returned ⊎ (pushes_by number order ≡ []))

-- the poller popped these instances; nothing else that it knows has changed
abbrev pub PopsMore : EndView → List ℕ → EndView → Type 0
PopsMore v fresh w = w ≡ record v { popped = v.popped ++ fresh }

-- at some time during the call, everything pushed until then had been popped
abbrev pub WasEmpty : EndView → Type 0
WasEmpty v = (queued : List ℕ) × (length queued ≡ 0) × KnowsOrder v queued

-- What an end knows when it is made, and what is kept of an end that was returned.

abbrev pub poller : ℕ → List ℕ → List ℕ → List Returned → EndView
poller made pushed popped returned =
    record { live = true; polls = true; number = 0; made = made; pushed = pushed; popped = popped; returned = returned }

abbrev pub pusher : ℕ → List ℕ → EndView
pusher number pushed = record { live = true; polls = false; number = number; made = 0; pushed = pushed; popped = []; returned = [] }

abbrev pub spent_end : EndView
spent_end = record { live = false; polls = false; number = 0; made = 0; pushed = []; popped = []; returned = [] }

abbrev pub returned_end : ℕ → List ℕ → Returned
returned_end number pushed = record { number = number; pushed = pushed }

-- The invariant.

abbrev pub live_count : EndView → ℕ
live_count v = if v.live then 1 else 0

-- What an end knows is true: each knows its own pushes, and the poller knows what was popped, how many ends there are, and
-- which were returned.
abbrev pub FitsEnd : List Push → List ℕ → List Returned → ℕ → ℕ → EndView → Type 0
FitsEnd order popped returned made number v =
    (v.live ≡ true → (v.number ≡ number) × (v.pushed ≡ pushes_by number order))
    × (v.live ≡ false → IsReturned number returned)
    × (v.polls ≡ true → (v.live ≡ true) × (number ≡ 0) × (v.popped ≡ popped) × (v.returned ≡ returned) × (v.made ≡ made))

-- There is one order of all pushes: first those that were popped, then those in the queue. What each end knows agrees with it,
-- the pushes of returned ends stay in it, and only ends that were made have pushes.
pub record InOneOrder (queued : List ℕ) (views : List EndView) : Type 0 where
  pub order : List Push
  pub popped : List ℕ
  pub returned : List Returned
  pub made : ℕ
  pub all : ids_of order ≡ popped ++ queued
  pub sized : length views ≡ made
  pub fits : (number : ℕ) (v : EndView) → get_elem? views number ≡ some v → FitsEnd order popped returned made number v
  pub later : (number : ℕ) → made ≤ number → pushes_by number order ≡ []
  pub kept : (k : ℕ) (d : Returned) → get_elem? returned k ≡ some d
      → (d.pushed ≡ pushes_by d.number order) × (d.number < made) × ((u : EndView) → get_elem? views d.number ≡ some u → u.live ≡ false)
  pub counted : sum_by live_count views + length returned ≡ made
