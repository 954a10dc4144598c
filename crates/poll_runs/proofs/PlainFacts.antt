-- Runs over a list of one thread are determined by their polls, and two of them from the same start agree.
use Rattle.std.proofs.Common.{◌≡◌, ◌≢◌, ◌∙◌, ◌⊎◌, inl, inr, ℕ, ◌+◌, ◌<◌, ◌≤◌, Bool, false, cond, List, [], ◌∷◌, ◌++◌, length, length-append}
use Rattle.std.proofs.{Common.{take, drop, refl, sym, ap, arith, append_assoc}, Math.Seq.{drop-append_seam, take-add, take-append_seam}}
use Rattle.std.proofs.lemmas.{List.{append-nil, append_cancel_left, drop-drop, take-append-drop, take-append-le, take_all}, Bool.cases_lt}
use Rattle.{std.specs.List.{AllByRecursion, concat}, poll_runs.specs.Laws.{FollowEachOther, HasOneOutcome, IsPlainRun, NoOtherArrivals}}
use Rattle.poll_runs.specs.{Laws.PlainListAfterwards, Plain.{NothingBehind, OwnPushes, all_held}, Polls.{At, Chain, Poll, queued_by, ids}}
use Rattle.poll_runs.specs.{Polls.{is_arrival, is_repoll, repolled}, Run.{AreBatches, IsBatch, is_spent}, declared.bench.Next.Next}
use Rattle.poll_runs.specs.declared.{bench.{Next.TheVariants.{Absent, Gone, Again, Repoll}, Once.Once}, run.RunReport.RunReport}
use Rattle.poll_runs.proofs.PollFacts.{arrivals-append, ids-append, length-ids, taken-le, arrivals-cons, repolled-cons}
use Rattle.napi_model.specs.declared.state.Kind.{Kind}

-- a batch over a list of one thread
abbrev pub IsPlainBatch : ℕ → ℕ → List ℕ → List Poll → List ℕ → Type 0
IsPlainBatch = IsBatch all_held OwnPushes NothingBehind

-- the entries taken before, followed by a batch, are the initial list followed by what the polls queued on it
batch-whole : (budget window : ℕ) (start : List ℕ) (earlier : List Poll) (batch : List ℕ) → IsPlainBatch budget window start earlier batch
    → ids earlier ++ batch ≡ start ++ queued_by earlier
batch-whole budget window start earlier batch b = let own : b.came ≡ queued_by earlier = b.moved in rw (← own) b.whole

-- an element at the end of a prefix is part of a longer prefix
front-at : (xs : List ℕ) (x : ℕ) (ys front rest : List ℕ) → xs ++ x ∷ ys ≡ front ++ rest → length xs < length front
    → (more : List ℕ) × (front ≡ xs ++ x ∷ more)
front-at xs x ys [] rest h less = absurd (omega (arith, less))
front-at [] x ys (f ∷ front) rest h less = (front, let same : x ≡ f = cc h in rw same refl)
front-at (z ∷ xs) x ys (f ∷ front) rest h less =
    let same : z ≡ f = cc h in
    let tails : xs ++ x ∷ ys ≡ front ++ rest = cc h in
    let further = front-at xs x ys front rest tails (omega (arith, less)) in
    (further.0, ap (λ (l : List ℕ). f ∷ l) further.1 ∙ ap (λ (y : ℕ). y ∷ (xs ++ x ∷ further.0)) (sym same))

-- The polls so far determine the number of the next one: it is the next entry of the initial list followed by what these polls
-- queued.
next-id : (budget window : ℕ) (start : List ℕ) (earlier later : List Poll) (poll : Poll) (rest taken : List ℕ) (batches : List (List ℕ))
    → length taken ≤ length earlier
    → AreBatches (IsPlainBatch budget window start) (earlier ++ poll ∷ later) taken batches
    → ids (earlier ++ poll ∷ later) ++ rest ≡ taken ++ concat batches
    → (more : List ℕ) × (ids earlier ++ poll.id ∷ more ≡ start ++ queued_by earlier)
next-id budget window start earlier later poll rest taken [] short b front =
    let size : length (ids (earlier ++ poll ∷ later) ++ rest) ≡ length (taken ++ []) = ap length front in
    absurd (omega (
      arith,
      size,
      length-append (ids (earlier ++ poll ∷ later)) rest,
      length-ids (earlier ++ poll ∷ later),
      length-append earlier
          (poll ∷ later),
      length-append taken [],
      short,
    ))
next-id budget window start earlier later poll rest taken (batch ∷ batches) short b front =
    elim (cases_lt (length earlier) (length (taken ++ batch))) [
      | inl inside ↦ found inside
      | inr outside ↦ next-id budget window start earlier later poll rest (taken ++ batch) batches (omega (arith, outside)) b.2
          (front ∙ sym (append_assoc taken batch (concat batches)))
    ]
  where
    first : List Poll
    first = take (length taken) earlier

    same : take (length taken) (earlier ++ poll ∷ later) ≡ first
    same = take-append-le (length taken) earlier (poll ∷ later) short

    whole : taken ++ batch ≡ start ++ queued_by first
    whole = rw (same, rw same at b.0) at (batch-whole budget window start (take (length taken) (earlier ++ poll ∷ later)) batch b.1)

    polled : ids earlier ++ poll.id ∷ (ids later ++ rest) ≡ (taken ++ batch) ++ concat batches
    polled = sym (rw (ids-append earlier (poll ∷ later)) (append_assoc (ids earlier) (poll.id ∷ ids later) rest))
        ∙ (front ∙ sym (append_assoc taken batch (concat batches)))

    all : queued_by earlier ≡ queued_by first ++ queued_by (drop (length taken) earlier)
    all = ap queued_by (sym (take-append-drop (length taken) earlier)) ∙ arrivals-append first (drop (length taken) earlier)

    found : length earlier < length (taken ++ batch) → (more : List ℕ) × (ids earlier ++ poll.id ∷ more ≡ start ++ queued_by earlier)
    found inside =
        let part =
        front-at (ids earlier) poll.id (ids later ++ rest) (taken ++ batch) (concat batches) polled
        (omega (arith, inside, length-ids earlier)) in (
          part.0 ++ queued_by (drop (length taken) earlier),
          sym (append_assoc (ids earlier) (poll.id ∷ part.0) (queued_by (drop (length taken) earlier)))
              ∙ (rw (← part.1, whole, all) (append_assoc start (queued_by first) (queued_by (drop (length taken) earlier)))),
        )

-- If one run stopped without a squeeze, another one with the same polls so far makes no further poll: both took the same
-- batches.
stops : (budget window : ℕ) (start : List ℕ) (polls later : List Poll) (poll : Poll) (taken rest : List ℕ) (batches others : List (List ℕ))
    → AreBatches (IsPlainBatch budget window start) polls taken batches
    → AreBatches (IsPlainBatch budget window start) (polls ++ poll ∷ later) taken others
    → ids polls ≡ taken ++ concat batches
    → ids (polls ++ poll ∷ later) ++ rest ≡ taken ++ concat others
    → AllByRecursion (λ batch. batch ≢ []) others
    → (repolled polls ≢ []) ⊎ IsPlainBatch budget window start polls [] → ⊥
stops budget window start polls later poll taken rest [] [] b o all front full why =
    let size : length (ids polls) ≡ length (taken ++ []) = ap length all in
    let more : length (ids (polls ++ poll ∷ later) ++ rest) ≡ length (taken ++ []) = ap length front in
    absurd (omega (
      arith,
      size,
      more,
      length-append (ids (polls ++ poll ∷ later)) rest,
      length-ids polls,
      length-ids
          (polls ++ poll ∷ later),
      length-append polls (poll ∷ later),
    ))
stops budget window start polls later poll taken rest (batch ∷ batches) [] b o all front full why =
    let more : length (ids (polls ++ poll ∷ later) ++ rest) ≡ length (taken ++ []) = ap length front in
    absurd (omega (
      arith,
      more,
      taken-le polls taken b.0,
      length-append taken [],
      length-append (ids (polls ++ poll ∷ later)) rest,
      length-ids
          (polls ++ poll ∷ later),
      length-append polls (poll ∷ later),
    ))
stops budget window start polls later poll taken rest (batch ∷ batches) (other ∷ others) b o all front full why =
    let same = take-append-le (length taken) polls (poll ∷ later) (taken-le polls taken b.0) in
    let one = batch-whole budget window start (take (length taken) polls) batch b.1 in
    let two = batch-whole budget window start (take (length taken) polls) other (rw same at o.1) in
    let equal : other ≡ batch = append_cancel_left (ids (take (length taken) polls)) other batch (two ∙ sym one) in
    stops budget window start polls later poll (taken ++ batch) rest batches others b.2 (rw equal at o.2)
    (all ∙ sym (append_assoc taken batch (concat batches))) (front ∙ (rw equal (sym (append_assoc taken batch (concat others))))) full.1 why
stops budget window start polls later poll taken rest [] (other ∷ others) b o all front full why =
    elim why [
      | inl again ↦ again next.no_repoll
      | inr none ↦ full.0 (append_cancel_left (ids polls) other [] (whole ∙ sym (batch-whole budget window start polls [] none)))
    ]
  where
    size : length (ids polls) ≡ length taken
    size = ap length (all ∙ append-nil taken)

    same : take (length taken) (polls ++ poll ∷ later) ≡ polls
    same = take-append-le (length taken) polls (poll ∷ later) (omega (arith, size, length-ids polls))
        ∙ take_all (length taken) polls (omega (arith, size, length-ids polls))

    next : IsPlainBatch budget window start polls other
    next = rw same at o.1

    whole : ids polls ++ other ≡ start ++ queued_by polls
    whole = batch-whole budget window start polls other next

-- no run is a proper prefix of another one
longer : (budget window : ℕ) (start left kept : List ℕ) (polls later : List Poll) (poll : Poll) (report other : RunReport)
    → IsPlainRun budget window start polls left report → IsPlainRun budget window start (polls ++ poll ∷ later) kept other → ⊥
longer budget window start left kept polls later poll report other run long =
    stops budget window start polls later poll run.first long.rest run.further long.further run.batches.2
    (rw equal at long.batches.2) polled (rw equal at long.front) long.not_empty ends.1
  where
    goes : is_spent budget window polls ≡ false
    goes =
        let same = take-append-le (length polls) polls (poll ∷ later) (omega arith) ∙ take_all (length polls) polls (omega arith) in
        rw same at (long.goes_on (length polls) (omega (arith, length-append polls (poll ∷ later))))

    ends : (run.rest ≡ []) × ((repolled polls ≢ []) ⊎ IsPlainBatch budget window start polls [])
    ends = run.ends (run.squeezed ∙ goes)

    polled : ids polls ≡ run.first ++ concat run.further
    polled = sym (append-nil (ids polls)) ∙ (rw ends.0 at run.front)

    equal : long.first ≡ run.first
    equal = batch-whole budget window start [] long.first long.batches.1 ∙ sym (batch-whole budget window start [] run.first run.batches.1)

-- the numbers that were polled, and those left on the list
pub plain-whole : (budget window : ℕ) (start after : List ℕ) (polls : List Poll) (report : RunReport)
    → (run : IsPlainRun budget window start polls after report)
    → ids polls ++ (run.rest ++ run.late) ≡ start ++ queued_by polls
plain-whole budget window start after polls report run =
    let own : run.came ≡ queued_by polls = run.moved in
    rw (← append_assoc (ids polls) run.rest run.late, run.front, ← own) run.joined

-- after the same polls from the same bench, the remaining polls of two runs agree
agree : {B : Type 0} (relation : B → ℕ → ℕ → Once → B → Type 0) (budget weight window : ℕ) (start left kept : List ℕ)
    (report other : RunReport)
    → HasOneOutcome relation → (earlier polls others : List Poll) (bench after last : B)
    → Chain (At relation weight) bench polls after → IsPlainRun budget window start (earlier ++ polls) left report
    → Chain (At relation weight) bench others last → IsPlainRun budget window start (earlier ++ others) kept other
    → (polls ≡ others) × (after ≡ last)
agree relation budget weight window start left kept report other one earlier [] [] bench after last c r d s = (refl, c ∙ sym d)
agree relation budget weight window start left kept report other one earlier [] (poll ∷ others) bench after last c r d s =
    absurd (longer budget window start left kept earlier others poll report other (rw (append-nil earlier) at r) s)
agree relation budget weight window start left kept report other one earlier (poll ∷ polls) [] bench after last c r d s =
    absurd (longer budget window start kept left earlier polls poll other report (rw (append-nil earlier) at s) r)
agree {B} relation budget weight window start left kept report other one earlier (poll ∷ polls) (next ∷ others) bench after last c r d s =
    let rest : (polls ≡ others) × (after ≡ last) =
    agree relation budget weight window start left kept report other one (earlier ++ poll ∷ []) polls others c.0 after last c.2
    (rw (append_assoc earlier (poll ∷ []) polls) r)
    (rw outcome.1 d.2) (rw (append_assoc earlier (poll ∷ []) others, same) s) in
    (rw (same, rest.0) refl, rest.1)
  where
    id : poll.id ≡ next.id
    id =
        let a = next-id budget window start earlier polls poll r.rest [] (r.first ∷ r.further) (omega arith) r.batches r.front in
        let b = next-id budget window start earlier others next s.rest [] (s.first ∷ s.further) (omega arith) s.batches s.front in
        let tails : poll.id ∷ a.0 ≡ next.id ∷ b.0 = append_cancel_left (ids earlier) (poll.id ∷ a.0) (next.id ∷ b.0) (a.1 ∙ sym b.1) in
        cc tails

    outcome : (poll.once ≡ next.once) × (c.0 ≡ d.0)
    outcome = one bench c.0 d.0 poll.id weight poll.once next.once c.1 (rw id d.1)

    same : poll ≡ next
    same =
        let step : record { id = poll.id; once = poll.once } ≡ record { id = next.id; once = next.once } = rw (id, outcome.0) refl in
        step

pub runs-agree : {B : Type 0} (relation : B → ℕ → ℕ → Once → B → Type 0) → HasOneOutcome relation
    → (budget weight window : ℕ) (bench : B) (list : List ℕ) (polls others : List Poll) (after last : B) (left kept : List ℕ)
    (report other : RunReport)
    → Chain (At relation weight) bench polls after → IsPlainRun budget window list polls left report
    → Chain (At relation weight) bench others last → IsPlainRun budget window list others kept other
    → (polls ≡ others) × (after ≡ last) × (left ≡ kept) × (report ≡ other)
runs-agree relation one budget weight window bench list polls others after last left kept report other c r d s =
    (both.0, both.1, lists, reports)
  where
    both : (polls ≡ others) × (after ≡ last)
    both = agree relation budget weight window list left kept report other one [] polls others bench after last c r d s

    run : IsPlainRun budget window list polls kept other
    run = rw both.0 s

    lists : left ≡ kept
    lists =
        let rests : r.rest ++ r.late ≡ run.rest ++ run.late = append_cancel_left (ids polls) (r.rest ++ r.late) (run.rest ++ run.late)
        (plain-whole budget window list left polls report r ∙ sym (plain-whole budget window list kept polls other run)) in
        r.left ∙ (rw rests (sym run.left))

    reports : report ≡ other
    reports =
        let step : record { polls = report.polls; work = report.work; squeezed = report.squeezed } ≡ record {
          polls = other.polls;
          work = other.work;
          squeezed = other.squeezed;
        } =
        rw (r.count, r.sum, r.squeezed, run.count, run.sum, run.squeezed) refl in
        step

-- each poll queues its number at most once
pub handed-most : (polls : List Poll) → length (queued_by polls) + length (repolled polls) ≤ length polls
handed-most [] = omega arith
handed-most (poll ∷ polls) =
    let by : Bool → List ℕ = λ (b : Bool). cond b (poll.id ∷ []) [] in
    let a : length (queued_by (poll ∷ polls)) ≡ length (by (is_arrival poll.once.next)) + length (queued_by polls) =
    ap length (arrivals-cons poll polls) ∙ length-append (by (is_arrival poll.once.next)) (queued_by polls) in
    let r : length (repolled (poll ∷ polls)) ≡ length (by (is_repoll poll.once.next)) + length (repolled polls) =
    ap length (repolled-cons poll polls) ∙ length-append (by (is_repoll poll.once.next)) (repolled polls) in
    omega (arith, a, r, handed-most polls, one poll.once.next poll.id)
  where
    one : (next : Next) (id : ℕ) → length (cond (is_arrival next) (id ∷ []) []) + length (cond (is_repoll next) (id ∷ []) []) ≤ 1
    one Absent id = omega arith
    one Gone id = omega arith
    one Repoll id = omega arith
    one (Again Kind.List) id = omega arith
    one (Again Kind.Thread) id = omega arith

pub list-afterwards : PlainListAfterwards
list-afterwards budget window start after polls report run = (polled, left, sized)
  where
    whole : ids polls ++ (run.rest ++ run.late) ≡ start ++ queued_by polls
    whole = plain-whole budget window start after polls report run

    polled : ids polls ≡ take (length polls) (start ++ queued_by polls)
    polled = rw (← whole, ← length-ids polls) (sym (take-append_seam (ids polls) (run.rest ++ run.late)))

    left : after ≡ drop (length polls) (start ++ queued_by polls) ++ repolled polls
    left = rw (← whole, ← length-ids polls, drop-append_seam (ids polls) (run.rest ++ run.late)) run.left

    sized : length after ≤ length start
    sized =
        let all : length (ids polls ++ (run.rest ++ run.late)) ≡ length (start ++ queued_by polls) = ap length whole in
        let end : length after ≡ length ((run.rest ++ run.late) ++ repolled polls) = ap length run.left in
        omega (
          arith,
          all,
          end,
          handed-most polls,
          length-ids polls,
          length-append (ids polls) (run.rest ++ run.late),
          length-append
              (run.rest ++ run.late) (repolled polls),
          length-append start (queued_by polls),
        )

follow : (budget window : ℕ) (start : List ℕ) (polls : List Poll) (taken batch : List ℕ) (more : List (List ℕ))
    → taken ++ batch ≡ start ++ queued_by (take (length taken) polls)
    → AreBatches (IsPlainBatch budget window start) polls (taken ++ batch) more
    → FollowEachOther (drop (length taken) polls) batch more
follow budget window start polls taken batch [] whole b = tt
follow budget window start polls taken batch (next ∷ more) whole b = (
  append_cancel_left (taken ++ batch) next (queued_by here)
      (further ∙ (rw (cut, arrivals-append first here, whole) (sym (append_assoc start (queued_by first) (queued_by here))))),
  rw (drop-drop (length batch) (length taken) polls, ← length-append taken batch)
      (follow budget window start polls (taken ++ batch) next more further b.2),
)
  where
    first : List Poll
    first = take (length taken) polls

    here : List Poll
    here = take (length batch) (drop (length taken) polls)

    further : (taken ++ batch) ++ next ≡ start ++ queued_by (take (length (taken ++ batch)) polls)
    further = rw b.0 at (batch-whole budget window start (take (length (taken ++ batch)) polls) next b.1)

    cut : take (length (taken ++ batch)) polls ≡ first ++ here
    cut = rw (length-append taken batch) (take-add (length taken) (length batch) polls)

pub own-arrivals : NoOtherArrivals
own-arrivals budget window start after polls report run =
    let first = batch-whole budget window start [] run.first run.batches.1 in
    (first ∙ append-nil start, follow budget window start polls [] run.first run.further first run.batches.2, run.moved)
