-- What polls, runs and turns preserve of a poller's handles. (Names with "seat" are about these handles.)
use Rattle.std.proofs.Common.{◌≡◌, ◌⊎◌, ◌∙◌, ℕ, zero, suc, ◌<◌, Bool, false, List, [], ◌∷◌, Option, Some, None, length, inl, inr, refl}
use Rattle.std.proofs.Common.{sym, ap, subst, vec_items, set, get_or, arith}
use Rattle.std.specs.Prelude.{◌==◌, MatchOption, position}
use Rattle.{poll_runs.specs.{Polls.{At, Chain, Poll}, declared.bench.Once.Once}, poll_engine.proofs.ListFacts.{zip_both, zip_same}}
use Rattle.napi_calls.specs.declared.kept.DropBomb.{DropBomb}
use Rattle.poll_engine.specs.{SeatKeeping.{AreSameSeats, IsSameSeat}, declared.handle.PollHandle.PollHandle}
use Rattle.poll_engine.specs.{declared.list_poller.HandleBench.HandleBench, declared.list_poller.ListPoller.ListPoller}
use Rattle.poll_engine.specs.{declared.thread_poller.ThreadPoller.ThreadPoller, HandleBenches.{IsNowhere, IsPolledAt, PollsSeat}}
use Rattle.poll_engine.specs.{Serving.IsServed, Turns.{TurnsAlone, TurnsByRun}, declared.setup.signals.Waker.Waker}

-- ---- what each step preserves is preserved over all steps

module _ {A S : Type 0} (of : S → A) (Same : A → A → Type 0) (stays : (x : A) → Same x x)
    (joins : (x y z : A) → Same x y → Same y z → Same x z) where
  chain_keeps : {E : Type 0} (leads : S → E → S → Type 0) → ((x : S) (e : E) (y : S) → leads x e y → Same (of x) (of y))
      → (es : List E) (before after : S) → Chain leads before es after → Same (of before) (of after)
  chain_keeps leads keeps [] before after c = subst (λ (x : S). Same (of before) (of x)) (sym c) (stays (of before))
  chain_keeps leads keeps (e ∷ es) before after c =
      joins (of before) (of c.0) (of after) (keeps before e c.0 c.1) (chain_keeps leads keeps es c.0 after c.2)

  -- a poller that took no turn, or took its turns
  turns_keep : (waker : Waker) (turns : S → Bool → S → Type 0) → ((x : S) (found : Bool) (y : S) → turns x found y → Same (of x) (of y))
      → (before after : S) → (after ≡ before) ⊎ IsServed waker turns before after → Same (of before) (of after)
  turns_keep waker turns keeps before after (inl same) = subst (λ (x : S). Same (of before) (of x)) (sym same) (stays (of before))
  turns_keep waker turns keeps before after (inr s) =
      joins (of before) (of s.last) (of after) (chain_keeps turns keeps s.found before s.last s.earlier) (keeps s.last false after s.empty)

-- ---- a handle, and all handles of a poller

-- a handle that wasn't used stays the same
seat_stays : (x : PollHandle) → IsSameSeat x x
seat_stays x = record { number = refl; napi = refl; thread = refl; caller = λ s. s }

seats_stay : {R : Type 0} (l : List (DropBomb R PollHandle)) → AreSameSeats l l
seats_stay [] = tt
seats_stay (x ∷ xs) = (seat_stays x.value, seats_stay xs)

seat_joins : (x y z : PollHandle) → IsSameSeat x y → IsSameSeat y z → IsSameSeat x z
seat_joins x y z p q =
    record { number = q.number ∙ p.number; napi = q.napi ∙ p.napi; thread = q.thread ∙ p.thread; caller = λ s. q.caller (p.caller s) }

seats_join : {R : Type 0} (a b c : List (DropBomb R PollHandle)) → AreSameSeats a b → AreSameSeats b c → AreSameSeats a c
seats_join a b c p q = zip_same _ _ a c (λ x z h. seat_joins x.value h.0.value z.value h.1 h.2) (zip_both _ _ a b c p q)

-- the handle at one index was polled; the others stay the same
seats_set : {R : Type 0} (l : List (DropBomb R PollHandle)) (k : ℕ) (x y : DropBomb R PollHandle) → k < length l → get_or l k x ≡ x
    → IsSameSeat x.value y.value → AreSameSeats l (set l k y)
seats_set [] k x y b e s = absurd (omega arith)
seats_set (a ∷ l) zero x y b e s = (subst (λ z. IsSameSeat z.value y.value) (sym e) s, seats_stay l)
seats_set (a ∷ l) (suc k) x y b e s = (seat_stays a.value, seats_set l k x y (omega arith) e s)

-- ---- polls, runs and turns

-- a poll of the handle at this index, or of none
poll_keeps_at : {R : Type 0} (place : Option ℕ) (weight : ℕ) (once : Once) (before after : HandleBench R)
    → MatchOption place (IsNowhere before once after) (IsPolledAt before weight once after)
    → AreSameSeats (vec_items before.seats) (vec_items after.seats)
poll_keeps_at None weight once before after p =
    subst (λ l. AreSameSeats (vec_items before.seats) l) (sym p.seats) (seats_stay (vec_items before.seats))
poll_keeps_at (Some place) weight once before after p =
    subst (λ l. AreSameSeats (vec_items before.seats) l) (sym p.others)
    (seats_set (vec_items before.seats) place p.was p.now p.within p.there p.same)

-- a poll of an instance for which there is a handle, at this index, and of one for which there is none
pub polls_at : {R : Type 0} (seen : List (DropBomb R PollHandle)) (before : HandleBench R) (id weight : ℕ) (once : Once)
    (after : HandleBench R) (place : Option ℕ)
    → seen ≡ vec_items before.seats → place ≡ position (λ seat. seat.value.number == id) seen
    → MatchOption place (IsNowhere before once after) (IsPolledAt before weight once after)
    → PollsSeat before id weight once after
polls_at {R} seen before id weight once after place s e p =
    subst (λ at. MatchOption at (IsNowhere before once after) (IsPolledAt before weight once after))
    (e ∙ ap (λ l. position (λ (seat : DropBomb R PollHandle). seat.value.number == id) l) s) p

-- a run preserves the handles, and so do a poller's turns
run_keeps : {R : Type 0} (weight : ℕ) (polls : List Poll) (before after : HandleBench R) → Chain (At PollsSeat weight) before polls after
    → AreSameSeats (vec_items before.seats) (vec_items after.seats)
run_keeps {R} weight polls before after c =
    chain_keeps (λ (b : HandleBench R). vec_items b.seats) AreSameSeats seats_stay seats_join (At PollsSeat weight)
    (λ x p y h. poll_keeps_at
    (position (λ (seat : DropBomb R PollHandle). seat.value.number == p.id) (vec_items x.seats)) weight p.once x y h)
    polls before after c

pub served_keeps : {R : Type 0} (waker : Waker) (before after : ListPoller R) → (after ≡ before) ⊎ IsServed waker TurnsByRun before after
    → AreSameSeats (vec_items before.bench.seats) (vec_items after.bench.seats)
served_keeps {R} waker before after s =
    turns_keep (λ (p : ListPoller R). vec_items p.bench.seats) AreSameSeats seats_stay seats_join waker TurnsByRun
    (λ x found y t. run_keeps x.limits.weight t.run.polls x.bench y.bench t.run.seats) before after s

-- the turns of an instance's own thread preserve its handle
pub served_alone : {R : Type 0} (waker : Waker) (before after : ThreadPoller R) → (after ≡ before) ⊎ IsServed waker TurnsAlone before after
    → IsSameSeat before.seat.value after.seat.value
served_alone {R} waker before after s =
    turns_keep (λ (p : ThreadPoller R). p.seat.value) IsSameSeat seat_stays seat_joins waker TurnsAlone (λ x found y t. t.same)
    before after s
