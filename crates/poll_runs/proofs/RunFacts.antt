-- The progress of a run, and its invariant over each iteration of the loop.
use Rattle.std.proofs.Common.{◌≡◌, ◌≢◌, ◌∙◌, ◌⊎◌, inl, inr, ℕ, ◌+◌, ◌<◌, ◌≤◌, Bool, true, false, cond, List, [], ◌∷◌, ◌++◌, length}
use Rattle.std.proofs.{Common.{length-append, take, refl, sym, ap, subst, arith, append_assoc}, lemmas.{Bool.lt-leb, List.append-nil}}
use Rattle.std.{proofs.{lemmas.List.{take-append-le, take_all, Folds.concat-append}, Math.Nat.eq-or-lt_of_le}, specs.Prelude.{nat_le, ◌||◌}}
use Rattle.{std.specs.{Prelude.{Option, Some, None, MatchOption}, List.{AllByRecursion, concat}}, poll_runs.specs.Polls.{Poll, queued_by}}
use Rattle.poll_runs.specs.{Polls.{ids, is_arrival, is_repoll, repolled, work_of}, Run.{AreBatches, IsBatch, IsRun, is_spent}, Driven.Going}
use Rattle.poll_runs.specs.{Driven.{IsGoing, IsOver}, Steps.{Begins, has_spent}, Turn.{HandsOn, Refills, TakesBatch, asked_for}}
use Rattle.poll_runs.specs.declared.{polling_run.PollingRun.PollingRun, run.RunReport.RunReport, bench.Next.{Next, TheVariants.Absent}}
use Rattle.poll_runs.{specs.declared.bench.Next.TheVariants.{Gone, Again, Repoll}, proofs.PollFacts.{arrivals-append, arrivals-one}}
use Rattle.poll_runs.proofs.PollFacts.{ids-append, length-ids, repolled-append, repolled-one, taken-le, work-push}
use Rattle.napi_model.specs.declared.state.Kind.{Kind}
use Rattle.poll_runs.specs.Batches.{empties, empties_of}

-- batches remain batches after more polls
pub batches-push : (takes : List Poll → List ℕ → Type 0) (polls : List Poll) (poll : Poll) (taken : List ℕ) (batches : List (List ℕ))
    → AreBatches takes polls taken batches → AreBatches takes (polls ++ poll ∷ []) taken batches
batches-push takes polls poll taken [] h = tt
batches-push takes polls poll taken (batch ∷ more) h =
    let same = take-append-le (length taken) polls (poll ∷ []) (taken-le polls taken h.0) in
    (rw same h.0, rw same h.1, batches-push takes polls poll (taken ++ batch) more h.2)

-- one more batch, after all entries taken before were polled
pub batches-more : (takes : List Poll → List ℕ → Type 0) (polls : List Poll) (taken : List ℕ) (batches : List (List ℕ)) (batch : List ℕ)
    → AreBatches takes polls taken batches → ids polls ≡ taken ++ concat batches → takes polls batch
    → AreBatches takes polls taken (batches ++ batch ∷ [])
batches-more takes polls taken [] batch h all t =
    let whole : ids polls ≡ taken = all ∙ append-nil taken in
    let size : length (ids polls) ≡ length taken = ap length whole in
    let same : take (length taken) polls ≡ polls = take_all (length taken) polls (omega (arith, size, length-ids polls)) in
    (rw same whole, rw same t, tt)
batches-more takes polls taken (first ∷ batches) batch h all t =
    (h.0, h.1, batches-more takes polls (taken ++ first) batches batch h.2 (all ∙ sym (append_assoc taken first (concat batches))) t)

pub not-empty-push : (batches : List (List ℕ)) (batch : List ℕ) → AllByRecursion (λ b. b ≢ []) batches → batch ≢ []
    → AllByRecursion (λ b. b ≢ []) (batches ++ batch ∷ [])
not-empty-push [] batch h n = (n, tt)
not-empty-push (first ∷ batches) batch h n = (h.0, not-empty-push batches batch h.1 n)

-- budget and window aren't used up
pub not-spent : (budget window : ℕ) (polls : List Poll) → work_of polls < budget → length polls < window
    → is_spent budget window polls ≡ false
not-spent budget window polls money room = rw (lt-leb budget (work_of polls) money, lt-leb window (length polls) room) refl

-- one more batch
empties-more : (batches : List (List ℕ)) (batch : List ℕ) → empties_of (batches ++ batch ∷ []) ≡ empties_of batches + empties batch
empties-more [] batch = omega arith
empties-more (first ∷ batches) batch = omega (arith, empties-more batches batch)

-- the first splice
pub going-start : {L : Type 0} (entries : L → List ℕ) (moves : L → List ℕ → List ℕ → ℕ → L → Type 0) (is_all : List ℕ → L → Type 0)
    (budget window : ℕ) (start list : L) (own : List ℕ)
    → 0 < budget → 0 < window
    → TakesBatch entries moves is_all start own list
    → Going entries moves is_all budget window start [] list own [] 0 0
going-start entries moves is_all budget window start list own money room s = record {
  first = own;
  further = [];
  came = s.came;
  batches = (
    refl,
    record {
      when = list;
      came = s.came;
      found = empties own;
      moved = s.moved;
      emptied = omega arith;
      whole = s.gives;
      all = s.all;
      no_repoll = refl;
      left = (money, room);
    },
    tt,
  );
  not_empty = tt;
  front = sym (append-nil own);
  found = empties own;
  moved = s.moved;
  emptied = omega arith;
  joined = rw (append-nil own, s.nothing_kept, append-nil own) s.gives;
  again = refl;
  goes_on = λ n h. absurd (omega arith);
  counted = refl;
  summed = refl;
}

pub run-begins : {L : Type 0} (entries : L → List ℕ) (moves : L → List ℕ → List ℕ → ℕ → L → Type 0) (is_all : List ℕ → L → Type 0)
    (start list : L) (run : PollingRun)
    → 0 < run.budget → 0 < run.window → run.asked ≡ None → Begins entries moves is_all start run list
    → IsGoing entries moves is_all start [] list run
run-begins entries moves is_all start list run money room rests b =
    rw (rests, b.repoll, b.polls, b.work) (going-start entries moves is_all run.budget run.window start list run.own money room b.takes)

-- a run whose own list was refilled, if there was anything on the list
pub record Filled {L : Type 0} (entries : L → List ℕ) (moves : L → List ℕ → List ℕ → ℕ → L → Type 0) (is_all : List ℕ → L → Type 0)
    (budget window : ℕ) (start : L) (polls : List Poll) (list : L) (own repoll : List ℕ) (count sum : ℕ) : Type 0 where
  pub going : Going entries moves is_all budget window start polls list own repoll count sum
  pub none : own ≡ [] → (repoll ≢ []) ⊎ IsBatch entries moves is_all budget window start polls []

-- a further batch, or none
pub going-spliced : {L : Type 0} (entries : L → List ℕ) (moves : L → List ℕ → List ℕ → ℕ → L → Type 0) (is_all : List ℕ → L → Type 0)
    (budget window : ℕ) (start : L) (polls : List Poll) (list after : L) (given : List ℕ) (count sum : ℕ)
    → ((a b c : L) (pushed more came later : List ℕ) (n m : ℕ) → moves a pushed came n b → moves b more later m c
    → moves a (pushed ++ more) (came ++ later) (n + m) c)
    → sum < budget → count < window
    → TakesBatch entries moves is_all list given after
    → Going entries moves is_all budget window start polls list [] [] count sum
    → Filled entries moves is_all budget window start polls after given [] count sum
going-spliced {L} entries moves is_all budget window start polls list after given count sum joins money room s g = by given refl
  where
    taken : ids polls ≡ g.first ++ concat g.further
    taken = sym (append-nil (ids polls)) ∙ g.front

    moved : moves start (queued_by polls) (g.came ++ s.came) (g.found + empties given) after
    moved =
        rw (append-nil (queued_by polls)) at
        (joins start list after (queued_by polls) [] g.came s.came g.found (empties given) g.moved s.moved)

    whole : (g.first ++ concat g.further) ++ given ≡ entries start ++ (g.came ++ s.came)
    whole =
        rw (s.gives, ← append_assoc (g.first ++ concat g.further) (entries list) s.came, g.joined)
        (append_assoc (entries start) g.came s.came)

    batch : IsBatch entries moves is_all budget window start polls given
    batch = record {
      when = after;
      came = g.came ++ s.came;
      found = g.found + empties given;
      moved = moved;
      emptied = omega arith;
      whole = rw taken whole;
      all = s.all;
      no_repoll = sym g.again;
      left = (omega (arith, g.summed), omega (arith, g.counted));
    }

    by : (own : List ℕ) → own ≡ given → Filled entries moves is_all budget window start polls after own [] count sum
    by [] e = record {
      going = record {
        first = g.first;
        further = g.further;
        came = g.came ++ s.came;
        batches = g.batches;
        not_empty = g.not_empty;
        front = g.front;
        found = g.found + empties given;
        moved = moved;
        emptied = omega (arith, g.emptied);
        joined = rw (s.nothing_kept, e) whole;
        again = g.again;
        goes_on = g.goes_on;
        counted = g.counted;
        summed = g.summed;
      };
      none = λ h. inr (rw e batch);
    }
    by (id ∷ own) e = record {
      going = record {
        first = g.first;
        further = g.further ++ given ∷ [];
        came = g.came ++ s.came;
        batches =
            batches-more (IsBatch entries moves is_all budget window start) polls [] (g.first ∷ g.further) given g.batches taken batch;
        not_empty = not-empty-push g.further given g.not_empty (λ h. let bad : id ∷ own ≡ [] = e ∙ h in cc bad);
        front = rw (taken, e, concat-append g.further (given ∷ []), append-nil given) (append_assoc g.first (concat g.further) given);
        found = g.found + empties given;
        moved = moved;
        emptied = omega (arith, g.emptied, empties-more (g.first ∷ g.further) given);
        joined =
            rw (s.nothing_kept, concat-append g.further (given ∷ []), append-nil given, ← append_assoc g.first (concat g.further) given)
            (append-nil _ ∙ whole);
        again = g.again;
        goes_on = g.goes_on;
        counted = g.counted;
        summed = g.summed;
      };
      none = λ h. cc h;
    }

pub going-filled : {L : Type 0} (entries : L → List ℕ) (moves : L → List ℕ → List ℕ → ℕ → L → Type 0) (is_all : List ℕ → L → Type 0)
    (has_room : L → ℕ → Type 0)
    (budget window : ℕ) (start : L) (polls : List Poll) (list after : L) (own repoll filled : List ℕ) (count sum : ℕ)
    → ((a b c : L) (pushed more came later : List ℕ) (n m : ℕ) → moves a pushed came n b → moves b more later m c
    → moves a (pushed ++ more) (came ++ later) (n + m) c)
    → sum < budget → count < window
    → Refills entries moves is_all has_room own list repoll filled after
    → Going entries moves is_all budget window start polls list own repoll count sum
    → Filled entries moves is_all budget window start polls after filled repoll count sum
going-filled entries moves is_all has_room budget window start polls list after (id ∷ own) repoll filled count sum joins money room r g =
    rw (r.0, r.1) (record { going = g; none = λ h. cc h })
going-filled entries moves is_all has_room budget window start polls list after [] (id ∷ repoll) filled count sum joins money room r g =
    rw (r.0, r.1) (record { going = g; none = λ h. inl (λ e. cc e) })
going-filled entries moves is_all has_room budget window start polls list after [] [] filled count sum joins money room r g =
    going-spliced entries moves is_all budget window start polls list after filled count sum joins money room r.takes g

-- the room in the list after the own list was refilled, and how many numbers the run holds
pub filled-room : {L : Type 0} (entries : L → List ℕ) (moves : L → List ℕ → List ℕ → ℕ → L → Type 0) (is_all : List ℕ → L → Type 0)
    (has_room : L → ℕ → Type 0)
    (list after : L) (own repoll filled : List ℕ) → Refills entries moves is_all has_room own list repoll filled after
    → has_room list (length own + length repoll) → length own + length repoll ≤ 64
    → has_room after (length filled + length repoll) × (length filled + length repoll ≤ 64)
filled-room entries moves is_all has_room list after (id ∷ own) repoll filled r room few = rw (r.0, r.1) (room, few)
filled-room entries moves is_all has_room list after [] (id ∷ repoll) filled r room few = rw (r.0, r.1) (room, few)
filled-room entries moves is_all has_room list after [] [] filled r room few =
    let same : length filled ≡ length filled + 0 = omega arith in
    (subst (λ (n : ℕ). has_room after n) same r.room, omega (arith, r.most))

-- the same after a number of the run was queued
pub handed-room : {L : Type 0} (entries : L → List ℕ) (moves : L → List ℕ → List ℕ → ℕ → L → Type 0) (has_room : L → ℕ → Type 0)
    (list after : L) (next : Next) (id n : ℕ) (repoll : List ℕ)
    → ((at : L) (n : ℕ) → has_room at (n + 1) → has_room at n) → HandsOn entries moves has_room list (is_arrival next) id after
    → has_room list ((n + length repoll) + 1) → (n + length repoll) + 1 ≤ 64
    → has_room after (n + length (repoll ++ cond (is_repoll next) (id ∷ []) []))
    × (n + length (repoll ++ cond (is_repoll next) (id ∷ []) []) ≤ 64)
handed-room entries moves has_room list after (Again Kind.List) id n repoll less h room few =
    rw (append-nil repoll) (h.room (n + length repoll) room, omega (arith, few))
handed-room entries moves has_room list after (Again Kind.Thread) id n repoll less h room few =
    rw (append-nil repoll, h) (less list (n + length repoll) room, omega (arith, few))
handed-room entries moves has_room list after Absent id n repoll less h room few =
    rw (append-nil repoll, h) (less list (n + length repoll) room, omega (arith, few))
handed-room entries moves has_room list after Gone id n repoll less h room few =
    rw (append-nil repoll, h) (less list (n + length repoll) room, omega (arith, few))
handed-room entries moves has_room list after Repoll id n repoll less h room few =
    let same : (n + length repoll) + 1 ≡ n + length (repoll ++ id ∷ []) = omega (arith, length-append repoll (id ∷ [])) in
    (rw h (subst (λ (m : ℕ). has_room list m) same room), omega (arith, few, same))

-- what one poll pushed, and what arrived during it
pub pushed-by : {L : Type 0} (entries : L → List ℕ) (moves : L → List ℕ → List ℕ → ℕ → L → Type 0) (has_room : L → ℕ → Type 0)
    (list after : L) (arrival : Bool) (id : ℕ)
    → ((at : L) → moves at [] [] 0 at) → HandsOn entries moves has_room list arrival id after
    → (came : List ℕ) × moves list (cond arrival (id ∷ []) []) came 0 after × (entries after ≡ entries list ++ came)
pushed-by entries moves has_room list after true id stays h = (h.came, h.moved, h.entries_after)
pushed-by entries moves has_room list after false id stays h = ([], rw h (stays list), rw h (sym (append-nil (entries list))))

-- one more poll
pub going-poll : {L : Type 0} (entries : L → List ℕ) (moves : L → List ℕ → List ℕ → ℕ → L → Type 0) (is_all : List ℕ → L → Type 0)
    (has_room : L → ℕ → Type 0)
    (budget window : ℕ) (start : L) (polls : List Poll) (list after : L) (own repoll : List ℕ) (count sum : ℕ) (poll : Poll)
    → ((at : L) → moves at [] [] 0 at)
    → ((a b c : L) (pushed more came later : List ℕ) (n m : ℕ) → moves a pushed came n b → moves b more later m c
    → moves a (pushed ++ more) (came ++ later) (n + m) c)
    → sum < budget → count < window
    → HandsOn entries moves has_room list (is_arrival poll.once.next) poll.id after
    → Going entries moves is_all budget window start polls list (poll.id ∷ own) repoll count sum
    → Going entries moves is_all budget window start (polls ++ poll ∷ []) after own
    (repoll ++ cond (is_repoll poll.once.next) (poll.id ∷ []) [])
    (count + 1) (sum + poll.once.work)
going-poll entries moves is_all has_room budget window start polls list after own repoll count sum poll stays joins money room h g =
    let pushed = pushed-by entries moves has_room list after (is_arrival poll.once.next) poll.id stays h in
    record {
      first = g.first;
      further = g.further;
      came = g.came ++ pushed.0;
      batches = batches-push (IsBatch entries moves is_all budget window start) polls poll [] (g.first ∷ g.further) g.batches;
      not_empty = g.not_empty;
      front = rw (ids-append polls (poll ∷ [])) (append_assoc (ids polls) (poll.id ∷ []) own ∙ g.front);
      found = g.found + 0;
      moved =
          rw (arrivals-append polls (poll ∷ []), arrivals-one poll)
          (joins start list after (queued_by polls) (cond (is_arrival poll.once.next) (poll.id ∷ []) []) g.came pushed.0 g.found 0 g.moved
          pushed.1);
      emptied = omega (arith, g.emptied);
      joined =
          rw (pushed.2, ← append_assoc (g.first ++ concat g.further) (entries list) pushed.0, g.joined)
          (append_assoc (entries start) g.came pushed.0);
      again = rw (repolled-append polls (poll ∷ []), repolled-one poll, g.again) refl;
      goes_on = goes_on;
      counted = rw (length-append polls (poll ∷ []), g.counted) refl;
      summed = rw (work-push polls poll, g.summed) refl;
    }
  where
    early : (n : ℕ) → n < length polls → is_spent budget window (take n (polls ++ poll ∷ [])) ≡ false
    early n e = rw (take-append-le n polls (poll ∷ []) (omega arith)) (g.goes_on n e)

    late : (n : ℕ) → n ≡ length polls → is_spent budget window (take n (polls ++ poll ∷ [])) ≡ false
    late n e =
        rw (e, take-append-le (length polls) polls (poll ∷ []) (omega arith), take_all (length polls) polls (omega arith))
        (not-spent budget window polls (omega (arith, g.summed)) (omega (arith, g.counted)))

    goes_on : (n : ℕ) → n < length (polls ++ poll ∷ []) → is_spent budget window (take n (polls ++ poll ∷ [])) ≡ false
    goes_on n e = elim (eq-or-lt_of_le {n = n} {m = length polls} (omega (arith, length-append polls (poll ∷ []), e))) [
      | inl same ↦ late n same
      | inr less ↦ early n less
    ]

-- the result of the run
pub going-ends : {L : Type 0} (entries : L → List ℕ) (moves : L → List ℕ → List ℕ → ℕ → L → Type 0) (is_all : List ℕ → L → Type 0)
    (budget window : ℕ) (start : L) (polls : List Poll) (list after : L) (own repoll : List ℕ) (count sum : ℕ) (report : RunReport)
    → ((a b c : L) (pushed more came later : List ℕ) (n m : ℕ) → moves a pushed came n b → moves b more later m c
    → moves a (pushed ++ more) (came ++ later) (n + m) c)
    → ((came : List ℕ) × moves list [] came (empties (entries after)) after × (entries after ≡ own ++ (entries list ++ came) ++ repoll))
    → is_all (entries after) after
    → report.polls ≡ count → report.work ≡ sum → report.squeezed ≡ (nat_le budget sum || nat_le window count)
    → Going entries moves is_all budget window start polls list own repoll count sum
    → (is_spent budget window polls ≡ false
    → (own ≡ []) × ((repolled polls ≢ []) ⊎ IsBatch entries moves is_all budget window start polls []))
    → IsRun entries moves is_all budget window start polls after report
going-ends entries moves is_all budget window start polls list after own repoll count sum report joins back all told work squeezed g over =
    record {
      first = g.first;
      further = g.further;
      rest = own;
      late = entries list ++ back.0;
      came = g.came ++ back.0;
      batches = g.batches;
      not_empty = g.not_empty;
      front = g.front;
      found = g.found + empties (entries after);
      moved =
          rw (append-nil (queued_by polls)) at
          (joins start list after (queued_by polls) [] g.came back.0 g.found (empties (entries after)) g.moved back.1);
      emptied = omega (arith, g.emptied);
      joined =
          rw (← append_assoc (g.first ++ concat g.further) (entries list) back.0, g.joined) (append_assoc (entries start) g.came back.0);
      left = rw (← g.again) back.2;
      all = all;
      goes_on = g.goes_on;
      squeezed = rw (← g.counted, ← g.summed) squeezed;
      ends = λ e. over (sym (rw (← g.counted, ← g.summed) squeezed) ∙ e);
      count = told ∙ g.counted;
      sum = work ∙ g.summed;
    }

-- the run ends with this list and this report
pub run-ends : {L : Type 0} (entries : L → List ℕ) (moves : L → List ℕ → List ℕ → ℕ → L → Type 0) (is_all : List ℕ → L → Type 0) (start : L)
    (polls : List Poll)
    (list after : L) (run : PollingRun) (report : RunReport)
    → ((a b c : L) (pushed more came later : List ℕ) (n m : ℕ) → moves a pushed came n b → moves b more later m c
    → moves a (pushed ++ more) (came ++ later) (n + m) c)
    → run.asked ≡ None
    → ((came : List ℕ) × moves list [] came (empties (entries after)) after
    × (entries after ≡ run.own ++ (entries list ++ came) ++ run.repoll))
    → is_all (entries after) after
    → report ≡ record { polls = run.polls; work = run.work; squeezed = has_spent run }
    → IsGoing entries moves is_all start polls list run → IsOver entries moves is_all start polls run
    → IsRun entries moves is_all run.budget run.window start polls after report
run-ends entries moves is_all start polls list after run report joins rests back all told going over =
    going-ends entries moves is_all run.budget run.window start polls list after run.own run.repoll run.polls run.work report joins back all
    (ap (λ (r : RunReport). r.polls) told) (ap (λ (r : RunReport). r.work) told) (ap (λ (r : RunReport). r.squeezed) told)
    (rw rests at going) (rw rests at over)

-- the first number is removed, to be polled
pub ahead-popped : (popped : Option ℕ) (before after : List ℕ)
    → MatchOption popped ((before ≡ []) × (after ≡ [])) (λ id. before ≡ id ∷ after)
    → asked_for popped ++ after ≡ before
ahead-popped None before after h = h.1 ∙ sym h.0
ahead-popped (Some id) before after h = sym h

pub none-popped : (popped : Option ℕ) (before after : List ℕ) → popped ≡ None
    → MatchOption popped ((before ≡ []) × (after ≡ [])) (λ id. before ≡ id ∷ after) → before ≡ []
none-popped None before after e h = h.0
none-popped (Some id) before after e h = cc e

pub same-some : (a b : ℕ) (asked : Option ℕ) → asked ≡ Some a → asked ≡ Some b → a ≡ b
same-some a b asked h k = let both : Some a ≡ Some b = sym h ∙ k in cc both
