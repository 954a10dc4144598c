-- The effect of one more poll on a list of polls.
use Rattle.std.proofs.Common.{◌≡◌, ◌∙◌, ℕ, ◌+◌, ◌≤◌, Bool, true, false, cond, List, [], ◌∷◌, ◌++◌, length, take, map, refl, sym, ap, arith}
use Rattle.std.proofs.lemmas.List.{length-take, map-append, Elements.filter-append, Sums.sum_by-append}
use Rattle.poll_runs.specs.Polls.{Chain, Poll, queued_by, ids, is_arrival, is_repoll, repolled, work_of}

pub chain-push : {A B : Type 0} (leads : B → A → B → Type 0) (before : B) (polls : List A) (after last : B) (poll : A)
    → Chain leads before polls after → leads after poll last → Chain leads before (polls ++ poll ∷ []) last
chain-push leads before [] after last poll h l = (last, rw (sym h) l, refl)
chain-push leads before (p ∷ polls) after last poll h l = (h.0, h.1, chain-push leads h.0 polls after last poll h.2 l)

pub ids-append : (polls more : List Poll) → ids (polls ++ more) ≡ ids polls ++ ids more
ids-append polls more = map-append (λ (p : Poll). p.id) polls more

pub arrivals-append : (polls more : List Poll) → queued_by (polls ++ more) ≡ queued_by polls ++ queued_by more
arrivals-append polls more = rw (filter-append (λ (p : Poll). is_arrival p.once.next) polls more) (map-append (λ (p : Poll). p.id) _ _)

pub repolled-append : (polls more : List Poll) → repolled (polls ++ more) ≡ repolled polls ++ repolled more
repolled-append polls more = rw (filter-append (λ (p : Poll). is_repoll p.once.next) polls more) (map-append (λ (p : Poll). p.id) _ _)

one-id : (b : Bool) (poll : Poll) → map (λ (p : Poll). p.id) (cond b (poll ∷ []) []) ≡ cond b (poll.id ∷ []) []
one-id true poll = refl
one-id false poll = refl

pub arrivals-one : (poll : Poll) → queued_by (poll ∷ []) ≡ cond (is_arrival poll.once.next) (poll.id ∷ []) []
arrivals-one poll = one-id (is_arrival poll.once.next) poll

pub repolled-one : (poll : Poll) → repolled (poll ∷ []) ≡ cond (is_repoll poll.once.next) (poll.id ∷ []) []
repolled-one poll = one-id (is_repoll poll.once.next) poll

pub arrivals-cons : (one : Poll) (polls : List Poll)
    → queued_by (one ∷ polls) ≡ cond (is_arrival one.once.next) (one.id ∷ []) [] ++ queued_by polls
arrivals-cons one polls = arrivals-append (one ∷ []) polls ∙ ap (λ (l : List ℕ). l ++ queued_by polls) (arrivals-one one)

pub repolled-cons : (one : Poll) (polls : List Poll)
    → repolled (one ∷ polls) ≡ cond (is_repoll one.once.next) (one.id ∷ []) [] ++ repolled polls
repolled-cons one polls = repolled-append (one ∷ []) polls ∙ ap (λ (l : List ℕ). l ++ repolled polls) (repolled-one one)

pub work-push : (polls : List Poll) (poll : Poll) → work_of (polls ++ poll ∷ []) ≡ work_of polls + poll.once.work
work-push polls poll = sum_by-append (λ (p : Poll). p.once.work) polls (poll ∷ []) ∙ omega arith

pub length-ids : (polls : List Poll) → length (ids polls) ≡ length polls
length-ids [] = refl
length-ids (p ∷ polls) = omega (arith, length-ids polls)

-- if the first polls are those of all entries taken, there are as many of them
pub taken-le : (polls : List Poll) (taken : List ℕ) → ids (take (length taken) polls) ≡ taken → length taken ≤ length polls
taken-le polls taken h =
    let size : length (ids (take (length taken) polls)) ≡ length taken = ap length h in
    omega (arith, size, length-ids (take (length taken) polls), length-take (length taken) polls)
