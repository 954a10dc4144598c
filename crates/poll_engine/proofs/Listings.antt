-- What is pushed on the list for an instance that is queued, and which pollers are woken.
use Rattle.std.proofs.{Common.{arith, ◌≡◌, ◌∙◌, ℕ, Bool, List, [], ◌∷◌, ◌++◌, refl, sym, ap, append-nil}, lemmas.Grind.common_steps}
use Rattle.std.specs.Prelude.{Option, Some, None, MatchOption, flat_map}
use Rattle.napi_model.specs.{declared.event.Event.Event, declared.event.Operation.Operation}
use Rattle.{napi_calls.specs.{Seats.{pass_number, own_list}, Made.{Lost, Made, events, looks}}, napi_word.specs.declared.table.Pass.Pass}
use Rattle.poll_engine.specs.{Hands.{Lists, ThreadWakes, listings, thread_wakes, thread_wakes_after}, SharedLists.pushed_by}
use Rattle.poll_engine.specs.{declared.setup.signals.Waker.Waker, Trails.wakes_after, declared.worker.InterruptHandler.InterruptHandler}
use Rattle.poll_engine.specs.declared.outbox.Outbox.{Outbox}
use Rattle.napi_model.specs.declared.event.Call.TheVariants as call

listings-append : (number : ℕ) (es fs : List Event) → listings number (es ++ fs) ≡ listings number es ++ listings number fs
listings-append number [] fs = refl
listings-append number (e ∷ es) fs = grind (arith, common_steps, listings-append number es fs)

wakes-append : (waker : Waker) (pushed xs ys : List ℕ)
    → wakes_after waker pushed (xs ++ ys) ≡ wakes_after waker pushed xs ++ wakes_after waker (pushed ++ xs) ys
wakes-append waker pushed [] ys = grind (arith, common_steps)
wakes-append waker pushed (x ∷ xs) ys = grind (arith, common_steps, wakes-append waker (pushed ++ x ∷ []) xs ys)

thread_wakes-append : (waker : Waker) (own es fs : List Event)
    → thread_wakes_after waker own (es ++ fs) ≡ thread_wakes_after waker own es ++ thread_wakes_after waker (own ++ es) fs
thread_wakes-append waker own [] fs = grind (arith, common_steps)
thread_wakes-append waker own (e ∷ es) fs = grind (arith, common_steps, thread_wakes-append waker (own ++ e ∷ []) es fs)

-- an attempt that failed pushes nothing
pub tries_none : (number by : ℕ) (ts : List (Lost call.Schedule)) (os : List Operation)
    → listings number (events by (flat_map looks ts ++ os)) ≡ listings number (events by os)
tries_none number by [] os = refl
tries_none number by (t ∷ ts) os = tries_none number by ts os

-- and wakes no thread
pub tries_wake_none : (waker : Waker) (by : ℕ) (own : List Event) (ts : List (Lost call.Schedule)) (os : List Operation)
    → ((own : List Event) → thread_wakes_after waker own (events by os) ≡ [])
    → thread_wakes_after waker own (events by (flat_map looks ts ++ os)) ≡ []
tries_wake_none waker by own [] os none = none own
tries_wake_none waker by own (t ∷ ts) os none = tries_wake_none waker by _ ts os none

-- the wake-ups of two periods, one after the other
woken_more : {W : Type 0} (thread : Option W) (now : W → Waker) (own es fs : List Event) (a b c : List (Waker × Bool × List Event))
    → MatchOption thread (b ≡ a) (λ w. b ≡ a ++ thread_wakes_after (now w) own es)
    → MatchOption thread (c ≡ b) (λ w. c ≡ b ++ thread_wakes_after (now w) (own ++ es) fs)
    → MatchOption thread (c ≡ a) (λ w. c ≡ a ++ thread_wakes_after (now w) own (es ++ fs))
woken_more None now own es fs a b c h k = k ∙ h
woken_more (Some w) now own es fs a b c h k = grind (arith, common_steps, h, k, thread_wakes-append)

-- none, for events that queue nothing for the thread
woken_none : {W : Type 0} (thread : Option W) (now : W → Waker) (own es : List Event) (a b : List (Waker × Bool × List Event)) → b ≡ a
    → ((waker : Waker) (own : List Event) → thread_wakes_after waker own es ≡ [])
    → MatchOption thread (b ≡ a) (λ w. b ≡ a ++ thread_wakes_after (now w) own es)
woken_none None now own es a b same none = same
woken_none (Some w) now own es a b same none = rw (none (now w) own) (same ∙ sym (append-nil a))

module _ {R D : Type 0} {handler : InterruptHandler R} where
  -- two periods, one after the other
  pub lists_more : {p q r : Pass} {a b c : Outbox R D} → Lists handler p q a b → Lists handler q r b c → Lists handler p r a c
  lists_more {p} {q} {r} {a} {b} {c} h k = grind (arith, common_steps, listings-append, wakes-append)

  -- a call that queues nothing on the list pushes nothing
  pub lists_none : {p : Pass} {os : List Operation} {q : Pass} (a b : Outbox R D) → b.list ≡ a.list → b.list_wakes ≡ a.list_wakes
      → listings handler.number (events (pass_number p) os) ≡ []
      → Made p os q
      → Lists handler p q a b
  lists_none {p} {os} {q} a b same woken none made = grind (arith, common_steps)

  -- nothing was pushed, and no call was made
  pub lists_same : (p : Pass) (a b : Outbox R D) → b.list ≡ a.list → b.list_wakes ≡ a.list_wakes → Lists handler p p a b
  lists_same p a b same woken = grind (arith, common_steps)

  -- two periods, one after the other
  pub wakes_more : {p q r : Pass} {a b c : Outbox R D} → ThreadWakes handler p q a b → ThreadWakes handler q r b c
      → ThreadWakes handler p r a c
  wakes_more {p} {q} {r} {a} {b} {c} h k = record {
    did = h.did ++ k.did;
    grown = grind (arith, common_steps, h.grown, k.grown);
    woken = woken_more handler.thread (λ w. w.now) (own_list p) h.did k.did _ _ _ h.woken (rw h.grown at k.woken);
  }

  -- a call that queues nothing for the thread wakes no thread
  pub wakes_none : {p : Pass} {os : List Operation} {q : Pass} (a b : Outbox R D) → b.thread_wakes ≡ a.thread_wakes
      → ((waker : Waker) (own : List Event) → thread_wakes_after waker own (events (pass_number p) os) ≡ [])
      → Made p os q
      → ThreadWakes handler p q a b
  wakes_none {p} {os} {q} a b same none made = record {
    did = events (pass_number p) os;
    grown = made.grown;
    woken = woken_none handler.thread (λ w. w.now) (own_list p) (events (pass_number p) os) _ _ (ap thread_wakes same) none;
  }

  -- no thread was woken, and no call was made
  pub wakes_same : (p : Pass) (a b : Outbox R D) → b.thread_wakes ≡ a.thread_wakes → ThreadWakes handler p p a b
  wakes_same p a b same = record {
    did = [];
    grown = sym (append-nil (own_list p));
    woken = woken_none handler.thread (λ w. w.now) (own_list p) [] _ _ (ap thread_wakes same) (λ w own. refl);
  }
