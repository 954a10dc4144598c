-- The run computed by the function is a run, and every run over a list of one thread equals it.
use Rattle.std.proofs.Common.{◌≡◌, ◌≢◌, ◌∙◌, ◌⊎◌, inl, inr, ℕ, zero, suc, ◌+◌, ◌<◌, ◌≤◌, Bool, true, false, cond, List, [], ◌∷◌, ◌++◌}
use Rattle.std.proofs.{Common.{length, length-append, drop, refl, sym, ap, subst, arith, append_assoc}, Math.Seq.drop-append_seam}
use Rattle.std.{proofs.lemmas.{Bool.Decides.{eqb_tells, leb_tells}, List.append-nil}, specs.Prelude.{◌&&◌, ◌==◌, not, if◌then◌else◌}}
use Rattle.poll_runs.specs.{Plain.{NothingBehind, OwnPushes, all_held}, Laws.{HasOneOutcome, IsPlainRun}, Run.is_spent, Driven.Going}
use Rattle.poll_runs.specs.{Turn.HandsOn, Function.{IsGivenBy, Progress, RunIsFunction, after_batch, after_poll, from_batch, run_of}}
use Rattle.poll_runs.specs.{Function.{run_report, takes_more, IsShownBy, RunIsShown}, Polls.{At, Chain, Poll, queued_by, is_arrival}}
use Rattle.poll_runs.{specs.{Polls.{is_repoll, repolled, work_of}, declared.bench.Once.Once}, proofs.PlainFacts.{IsPlainBatch, handed-most}}
use Rattle.poll_runs.proofs.{PlainFacts.runs-agree, RunFacts.{going-ends, going-poll, going-spliced, going-start}, PollFacts.chain-push}
use Rattle.poll_runs.proofs.PollFacts.{work-push, arrivals-cons, repolled-cons}

-- neither the budget nor the window is used up
unspent : (budget window : ℕ) (polls : List Poll) → is_spent budget window polls ≡ false
    → (work_of polls < budget) × (length polls < window)
unspent budget window polls h =
    elim (leb_tells budget (work_of polls)) [
      | inl a ↦ let bad : true ≡ false = (rw a.0 at h) in cc bad
      | inr a ↦ elim (leb_tells window (length polls)) [
        | inl b ↦ let bad : true ≡ false = (rw (a.0, b.0) at h) in cc bad
        | inr b ↦ (a.1, b.1)
      ]
    ]

-- the pushes onto a list of one thread compose
own-joins : (a b c pushed more came later : List ℕ) (n m : ℕ) → OwnPushes a pushed came n b → OwnPushes b more later m c
    → OwnPushes a (pushed ++ more) (came ++ later) (n + m) c
own-joins a b c pushed more came later n m h k =
    let one : came ≡ pushed = h in let two : later ≡ more = k in
    ap (λ (xs : List ℕ). xs ++ later) one ∙ ap (λ (xs : List ℕ). pushed ++ xs) two

-- a list that always has room: these lemmas don't count it
abbrev Roomy : List ℕ → ℕ → Type 0
Roomy list n = Unit

-- the state of a run over a list of one thread that has made the polls of a progress
record Stands {B : Type 0} (relation : B → ℕ → ℕ → Once → B → Type 0) (budget weight window : ℕ) (start : List ℕ) (bench : B)
    (p : Progress B) (own held back : List ℕ) : Type 0 where
  going : Going all_held OwnPushes NothingBehind budget window start p.polls held own back (length p.polls) (work_of p.polls)
  chain : Chain (At relation weight) bench p.polls p.bench

hands : (list : List ℕ) (arrival : Bool) (id : ℕ) → HandsOn all_held OwnPushes Roomy list arrival id (list ++ cond arrival (id ∷ []) [])
hands list true id = record { came = id ∷ []; moved = refl; entries_after = refl; room = λ n h. tt }
hands list false id = append-nil list

stands-start : {B : Type 0} (relation : B → ℕ → ℕ → Once → B → Type 0) (budget weight window : ℕ) (start : List ℕ) (bench : B) → 1 ≤ budget
    → 1 ≤ window
    → Stands relation budget weight window start bench (record { bench = bench; polls = [] }) start [] []
stands-start relation budget weight window start bench money room = record {
  going = going-start all_held OwnPushes NothingBehind budget window start [] start money room
      (record { came = []; moved = refl; gives = sym (append-nil start); nothing_kept = refl; all = tt });
  chain = refl;
}

-- the state doesn't change if its counts are replaced by equal ones
recount : (budget window : ℕ) (start held : List ℕ) (polls : List Poll) (own back : List ℕ) (count sum more total : ℕ)
    → (g : Going all_held OwnPushes NothingBehind budget window start polls held own back count sum) → more ≡ count → total ≡ sum
    → Going all_held OwnPushes NothingBehind budget window start polls held own back more total
recount budget window start held polls own back count sum more total g c s = rw (c, s) g

-- the state after one more poll
stands-poll : {B : Type 0} (relation : B → ℕ → ℕ → Once → B → Type 0) (poll : B → ℕ → ℕ → Once × B) → IsGivenBy relation poll
    → (budget weight window : ℕ) (start : List ℕ) (bench : B) (p : Progress B) (id : ℕ) (own held back : List ℕ)
    → is_spent budget window p.polls ≡ false
    → Stands relation budget weight window start bench p (id ∷ own) held back
    → Stands relation budget weight window start bench (after_poll poll weight id p) own
    (held ++ cond (is_arrival (poll p.bench id weight).0.next) (id ∷ []) [])
    (back ++ cond (is_repoll (poll p.bench id weight).0.next) (id ∷ []) [])
stands-poll relation poll given budget weight window start bench p id own held back left s =
    let more = unspent budget window p.polls left in
    let one : Poll = record { id = id; once = (poll p.bench id weight).0 } in
    let next =
    going-poll all_held OwnPushes NothingBehind Roomy budget window start p.polls held
    (held ++ cond (is_arrival one.once.next) (one.id ∷ []) []) own back
    (length p.polls) (work_of p.polls) one (λ list. refl) own-joins more.0 more.1 (hands held (is_arrival one.once.next) one.id) s.going in
    record {
      going = recount budget window start (held ++ cond (is_arrival one.once.next) (id ∷ []) []) (p.polls ++ one ∷ []) own
          (back ++ cond (is_repoll one.once.next) (id ∷ []) []) (length p.polls + 1) (work_of p.polls + one.once.work)
          (length (p.polls ++ one ∷ [])) (work_of (p.polls ++ one ∷ []))
          next (length-append p.polls (one ∷ [])) (work-push p.polls one);
      chain = chain-push (At relation weight) bench p.polls p.bench (poll p.bench id weight).1 one s.chain
          ((given p.bench (poll p.bench id weight).1 id weight (poll p.bench id weight).0).1 (refl, refl));
    }

-- a batch, of which some entries were polled
record Batched {B : Type 0} (relation : B → ℕ → ℕ → Once → B → Type 0) (poll : B → ℕ → ℕ → Once × B) (budget weight window : ℕ)
    (start : List ℕ) (bench : B)
    (batch : List ℕ) (p : Progress B) (held back : List ℕ) : Type 0 where
  new : List Poll
  more : (after_batch poll budget weight window batch p).polls ≡ p.polls ++ new
  stands : Stands relation budget weight window start bench (after_batch poll budget weight window batch p) (drop (length new) batch)
      (held ++ queued_by new) (back ++ repolled new)
  whole : is_spent budget window (after_batch poll budget weight window batch p).polls ≡ false → drop (length new) batch ≡ []

batched : {B : Type 0} (relation : B → ℕ → ℕ → Once → B → Type 0) (poll : B → ℕ → ℕ → Once × B) → IsGivenBy relation poll
    → (budget weight window : ℕ) (start : List ℕ) (bench : B) (batch : List ℕ) (p : Progress B) (held back : List ℕ)
    → Stands relation budget weight window start bench p batch held back
    → Batched relation poll budget weight window start bench batch p held back
batched relation poll given budget weight window start bench [] p held back s =
    record { new = []; more = sym (append-nil p.polls); stands = rw (append-nil held, append-nil back) s; whole = λ h. refl }
batched {B} relation poll given budget weight window start bench (id ∷ batch) p held back s =
    by (is_spent budget window p.polls) refl
    (λ left. batched relation poll given budget weight window start bench batch (after_poll poll weight id p)
    (held ++ cond (is_arrival (poll p.bench id weight).0.next) (id ∷ []) [])
    (back ++ cond (is_repoll (poll p.bench id weight).0.next) (id ∷ []) [])
    (stands-poll relation poll given budget weight window start bench p id batch held back left s))
  where
    one : Poll
    one = record { id = id; once = (poll p.bench id weight).0 }

    next : Progress B
    next = after_poll poll weight id p

    by : (spent : Bool) → is_spent budget window p.polls ≡ spent
        → (is_spent budget window p.polls ≡ false
        → Batched relation poll budget weight window start bench batch (after_poll poll weight id p)
        (held ++ cond (is_arrival (poll p.bench id weight).0.next) (id ∷ []) [])
        (back ++ cond (is_repoll (poll p.bench id weight).0.next) (id ∷ []) []))
        → Batched relation poll budget weight window start bench (id ∷ batch) p held back
    by true e f =
        let same : after_batch poll budget weight window (id ∷ batch) p ≡ p = rw e refl in
        record {
          new = [];
          more = rw same (sym (append-nil p.polls));
          stands = rw (same, append-nil held, append-nil back) s;
          whole = λ h. let bad : true ≡ false = sym e ∙ (rw same at h) in cc bad;
        }
    by false e f =
        let same : after_batch poll budget weight window (id ∷ batch) p ≡ after_batch poll budget weight window batch next = rw e refl in
        let rest = f e in
        record {
          new = one ∷ rest.new;
          more = rw same (rest.more ∙ append_assoc p.polls (one ∷ []) rest.new);
          stands = rw (
            same,
            arrivals-cons one rest.new,
            repolled-cons one rest.new,
            ← append_assoc held (cond (is_arrival one.once.next) (id ∷ []) []) (queued_by rest.new),
            ← append_assoc back (cond (is_repoll one.once.next) (id ∷ []) []) (repolled rest.new),
          ) rest.stands;
          whole = λ h. rest.whole (rw same at h);
        }

-- the result of a run: the chain of its polls, and the proof that they are a run
abbrev pub Outcome : {B : Type 0} → (B → ℕ → ℕ → Once → B → Type 0) → ℕ → ℕ → ℕ → List ℕ → B → Progress B × List ℕ → Type 0
Outcome relation budget weight window start bench r =
    Chain (At relation weight) bench r.0.polls r.0.bench × IsPlainRun budget window start r.0.polls r.1 (run_report budget window r.0.polls)

-- the run ends in this state
ended : {B : Type 0} (relation : B → ℕ → ℕ → Once → B → Type 0) (budget weight window : ℕ) (start : List ℕ) (bench : B) (p : Progress B)
    (own held back : List ℕ)
    → (s : Stands relation budget weight window start bench p own held back)
    → (is_spent budget window p.polls ≡ false → (own ≡ []) × ((back ≢ []) ⊎ IsPlainBatch budget window start p.polls []))
    → Outcome relation budget weight window start bench (p, (own ++ held) ++ back)
ended relation budget weight window start bench p own held back s ends = (
  s.chain,
  going-ends all_held OwnPushes NothingBehind budget window start p.polls held ((own ++ held) ++ back) own back (length p.polls)
      (work_of p.polls)
      (run_report budget window p.polls) own-joins ([], refl, rw (append-nil held) refl) tt refl refl refl s.going
      (λ e. rw (← s.going.again) (ends e)),
)

-- if nothing is to be repolled and the own list is empty, the content of the list is the next batch, or is empty and there is
-- none
next-batch : {B : Type 0} (relation : B → ℕ → ℕ → Once → B → Type 0) (budget weight window : ℕ) (start : List ℕ) (bench : B)
    (p : Progress B) (held : List ℕ)
    → is_spent budget window p.polls ≡ false
    → Stands relation budget weight window start bench p [] held []
    → Stands relation budget weight window start bench p held [] [] × (held ≡ [] → IsPlainBatch budget window start p.polls [])
next-batch relation budget weight window start bench p [] left s =
    let more = unspent budget window p.polls left in
    let filled =
    going-spliced all_held OwnPushes NothingBehind budget window start p.polls [] [] [] (length p.polls)
    (work_of p.polls) own-joins more.0 more.1
    (record { came = []; moved = refl; gives = refl; nothing_kept = refl; all = tt }) s.going in
    (record { going = filled.going; chain = s.chain }, λ e. elim (filled.none refl) [ inl again ↦ absurd (again refl) | inr batch ↦ batch ])
next-batch relation budget weight window start bench p (id ∷ held) left s =
    let more = unspent budget window p.polls left in
    let filled =
    going-spliced all_held OwnPushes NothingBehind budget window start p.polls (id ∷ held) [] (id ∷ held) (length p.polls)
    (work_of p.polls) own-joins more.0 more.1
    (record { came = []; moved = refl; gives = sym (append-nil (id ∷ held)); nothing_kept = refl; all = tt }) s.going in
    (record { going = filled.going; chain = s.chain }, λ e. cc e)

empty-if : (xs : List ℕ) → (length xs == 0) ≡ true → xs ≡ []
empty-if [] h = refl
empty-if (x ∷ xs) h =
    elim (eqb_tells (length (x ∷ xs)) 0) [
      | inl same ↦ absurd (omega (arith, same.1))
      | inr other ↦ let bad : false ≡ true = sym other.0 ∙ h in cc bad
    ]

not-empty-if : (xs : List ℕ) → (length xs == 0) ≡ false → xs ≢ []
not-empty-if [] h = let bad : true ≡ false = h in cc bad
not-empty-if (x ∷ xs) h = λ e. cc e

longer-than-none : (xs : List ℕ) → xs ≢ [] → 1 ≤ length xs
longer-than-none [] h = absurd (h refl)
longer-than-none (x ∷ xs) h = omega arith

-- if a run takes another batch, each of the three conditions for it holds
takes-tells : (spent none empty : Bool) → (not spent && (none && not empty)) ≡ true → (spent ≡ false) × (none ≡ true) × (empty ≡ false)
takes-tells false true false h = (refl, refl, refl)
takes-tells spent none empty h = let bad : false ≡ true = h in cc bad

stops-tells : (spent none empty : Bool) → (not spent && (none && not empty)) ≡ false → spent ≡ false → none ≡ true → empty ≡ true
stops-tells true none empty h s n = let bad : true ≡ false = s in cc bad
stops-tells false false empty h s n = let bad : false ≡ true = n in cc bad
stops-tells false true false h s n = let bad : true ≡ false = h in cc bad
stops-tells false true true h s n = refl

from-batch : {B : Type 0} (poll : B → ℕ → ℕ → Once × B) (budget weight window batches : ℕ) (batch : List ℕ) (p : Progress B)
    (last : List Poll)
    → (after_batch poll budget weight window batch p).polls ≡ p.polls ++ last
    → from_batch poll budget weight window (suc batches) batch p
    ≡ (if takes_more budget window (after_batch poll budget weight window batch p).polls last
    then from_batch poll budget weight window batches (queued_by last) (after_batch poll budget weight window batch p)
    else (after_batch poll budget weight window batch p, (drop (length last) batch ++ queued_by last) ++ repolled last))
unfolding from_batch
from-batch poll budget weight window batches batch p last h =
    let same : drop (length p.polls) (after_batch poll budget weight window batch p).polls ≡ last = rw h (drop-append_seam p.polls last) in
    rw same refl

-- From the state of a run before a batch, with enough batches for the window, the rest of the function makes a run.
runs-on : {B : Type 0} (relation : B → ℕ → ℕ → Once → B → Type 0) (poll : B → ℕ → ℕ → Once × B) → IsGivenBy relation poll
    → (budget weight window : ℕ) (start : List ℕ) (bench : B) (batches : ℕ) (batch : List ℕ) (p : Progress B)
    → window ≤ batches + length p.polls
    → Stands relation budget weight window start bench p batch [] []
    → Outcome relation budget weight window start bench (from_batch poll budget weight window batches batch p)
unfolding from_batch
runs-on {B} relation poll given budget weight window start bench zero batch p enough s =
    subst (λ (xs : List ℕ). Outcome relation budget weight window start bench (p, xs)) (append-nil (batch ++ []) ∙ append-nil batch)
    (ended relation budget weight window start bench p batch [] [] s
    (λ left. absurd (omega (arith, enough, (unspent budget window p.polls left).1))))
runs-on {B} relation poll given budget weight window start bench (suc batches) batch p enough s =
    let b = batched relation poll given budget weight window start bench batch p [] [] s in
    let after = after_batch poll budget weight window batch p in
    rw (from-batch poll budget weight window batches batch p b.new b.more) (by b (takes_more budget window after.polls b.new) refl
    (λ more next. runs-on relation poll given budget weight window start bench batches (queued_by b.new) after more next))
  where
    now : Progress B
    now = after_batch poll budget weight window batch p

    by : (b : Batched relation poll budget weight window start bench batch p [] []) (takes : Bool)
        → takes_more budget window now.polls b.new ≡ takes
        → (window ≤ batches + length now.polls → Stands relation budget weight window start bench now (queued_by b.new) [] []
        → Outcome relation budget weight window start bench (from_batch poll budget weight window batches (queued_by b.new) now))
        → Outcome relation budget weight window start bench
        (if takes then from_batch poll budget weight window batches (queued_by b.new) now
        else (now, (drop (length b.new) batch ++ queued_by b.new) ++ repolled b.new))
    by b true e go =
        let told = takes-tells (is_spent budget window now.polls) (length (repolled b.new) == 0) (length (queued_by b.new) == 0) e in
        let none = empty-if (repolled b.new) told.1 in
        let some = longer-than-none (queued_by b.new) (not-empty-if (queued_by b.new) told.2) in
        let size : length now.polls ≡ length p.polls + length b.new = ap length b.more ∙ length-append p.polls b.new in
        let stands : Stands relation budget weight window start bench now [] (queued_by b.new) [] = rw (b.whole told.0, none) at b.stands in
        go (omega (arith, enough, size, some, handed-most b.new))
        (next-batch relation budget weight window start bench now (queued_by b.new) told.0 stands).0
    by b false e go =
        ended relation budget weight window start bench now (drop (length b.new) batch) (queued_by b.new) (repolled b.new) b.stands
        (λ left. (b.whole left, why (length (repolled b.new) == 0) refl left))
      where
        why : (none : Bool) → (length (repolled b.new) == 0) ≡ none → is_spent budget window now.polls ≡ false
            → (repolled b.new ≢ []) ⊎ IsPlainBatch budget window start now.polls []
        why false n left = inl (not-empty-if (repolled b.new) n)
        why true n left =
            let empty =
            empty-if (queued_by b.new)
            (stops-tells (is_spent budget window now.polls) (length (repolled b.new) == 0) (length (queued_by b.new) == 0) e left n) in
            let stands : Stands relation budget weight window start bench now [] [] [] =
            rw (b.whole left, empty, empty-if (repolled b.new) n) at b.stands in
            inr ((next-batch relation budget weight window start bench now [] left stands).1 refl)

one-outcome : {B : Type 0} (relation : B → ℕ → ℕ → Once → B → Type 0) (poll : B → ℕ → ℕ → Once × B) → IsGivenBy relation poll
    → HasOneOutcome relation
one-outcome relation poll given before after last id weight once other h k =
    let one = (given before after id weight once).0 h in
    let two = (given before last id weight other).0 k in
    (one.0 ∙ sym two.0, one.1 ∙ sym two.1)

pub run-is-function : {B : Type 0} (relation : B → ℕ → ℕ → Once → B → Type 0) → RunIsFunction relation
run-is-function {B} relation poll given budget weight window money room bench list = (
  made,
  λ polls after left report c r.
      runs-agree relation (one-outcome relation poll given) budget weight window bench list polls
      (run_of poll budget weight window bench list).0.polls after
      (run_of poll budget weight window bench list).0.bench left (run_of poll budget weight window bench list).1 report
      (run_report budget window (run_of poll budget weight window bench list).0.polls) c r made.0 made.1,
)
  where
    made : Outcome relation budget weight window list bench (run_of poll budget weight window bench list)
    made = runs-on relation poll given budget weight window list bench window list (record { bench = bench; polls = [] }) (omega arith)
        (stands-start relation budget weight window list bench money room)

-- ---- a bench whose polls are a function of a view of it

abbrev GraphOf : {V : Type 0} → (V → ℕ → ℕ → Once × V) → V → ℕ → ℕ → Once → V → Type 0
GraphOf poll before id weight once after = (once ≡ (poll before id weight).0) × (after ≡ (poll before id weight).1)

shown-chain : {B V : Type 0} (relation : B → ℕ → ℕ → Once → B → Type 0) (shown : B → V) (poll : V → ℕ → ℕ → Once × V)
    → IsShownBy relation shown poll
    → (weight : ℕ) (before after : B) (polls : List Poll)
    → Chain (At relation weight) before polls after → Chain (At (GraphOf poll) weight) (shown before) polls (shown after)
shown-chain relation shown poll given weight before after [] c = ap shown c
shown-chain relation shown poll given weight before after (p ∷ polls) c =
    (shown c.0, given before c.0 p.id weight p.once c.1, shown-chain relation shown poll given weight c.0 after polls c.2)

pub run-is-shown : {B V : Type 0} (relation : B → ℕ → ℕ → Once → B → Type 0) (shown : B → V) (poll : V → ℕ → ℕ → Once × V)
    → RunIsShown relation shown poll
run-is-shown relation shown poll given budget weight window money room bench after list left polls report c r =
    (run-is-function (GraphOf poll) poll (λ b a id w once. ((λ h. h), (λ h. h))) budget weight window money room (shown bench) list).1 polls
    (shown after) left report
    (shown-chain relation shown poll given weight bench after polls c) r
