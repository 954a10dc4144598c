-- The polling run over a list of one thread as a function, for a bench whose polls are a function of the bench, the number and
-- the weight.
use Rattle.std.specs.Prelude.{◌≡◌, ◌↔◌, ℕ, zero, suc, ◌≤◌, Bool, ◌&&◌, ◌==◌, not, if◌then◌else◌, List, [], ◌∷◌, ◌++◌, length, drop}
use Rattle.poll_runs.specs.{Laws.IsPlainRun, Polls.{At, Chain, Poll, queued_by, repolled, work_of}, Run.is_spent, declared.bench.Once.Once}
use Rattle.poll_runs.specs.declared.run.RunReport.{RunReport}

-- the progress of a run: the bench, and the polls made
pub record Progress (B : Type 0) : Type 0 where
  pub bench : B
  pub polls : List Poll

abbrev pub after_poll : {B : Type 0} → (B → ℕ → ℕ → Once × B) → ℕ → ℕ → Progress B → Progress B
after_poll poll weight id p = record {
  bench = (poll p.bench id weight).1;
  polls = p.polls ++ record { id = id; once = (poll p.bench id weight).0 } ∷ [];
}

-- polls the entries of a batch in order, until budget or window is used up
abbrev pub after_batch : {B : Type 0} → (B → ℕ → ℕ → Once × B) → ℕ → ℕ → ℕ → List ℕ → Progress B → Progress B
after_batch poll budget weight window [] p = p
after_batch poll budget weight window (id ∷ batch) p =
    if is_spent budget window p.polls then p else after_batch poll budget weight window batch (after_poll poll weight id p)

-- The run takes another batch if budget and window are left, no poll of the last batch asked for a repoll, and some poll of it
-- queued its number on the list.
abbrev pub takes_more : ℕ → ℕ → List Poll → List Poll → Bool
takes_more budget window all last = not (is_spent budget window all) && (length (repolled last) == 0 && not (length (queued_by last) == 0))

-- The run from a batch on, with at most this many batches, and the list afterwards: the unpolled rest of the last batch, what
-- its polls queued, and the repolls.
unfoldable pub from_batch : {B : Type 0} → (B → ℕ → ℕ → Once × B) → ℕ → ℕ → ℕ → ℕ → List ℕ → Progress B → Progress B × List ℕ
from_batch poll budget weight window zero batch p = (p, batch)
from_batch poll budget weight window (suc batches) batch p =
    let after = after_batch poll budget weight window batch p in
    let last = drop (length p.polls) after.polls in
    if takes_more budget window after.polls last then from_batch poll budget weight window batches (queued_by last) after
    else (after, (drop (length last) batch ++ queued_by last) ++ repolled last)

-- a run over all entries of the list; it polls at most `window` batches, because each further one follows a poll
abbrev pub run_of : {B : Type 0} → (B → ℕ → ℕ → Once × B) → ℕ → ℕ → ℕ → B → List ℕ → Progress B × List ℕ
run_of poll budget weight window bench list = from_batch poll budget weight window window list (record { bench = bench; polls = [] })

-- the report of a run with these polls
abbrev pub run_report : ℕ → ℕ → List Poll → RunReport
run_report budget window polls = record { polls = length polls; work = work_of polls; squeezed = is_spent budget window polls }

-- a bench's polls are a function: the relation holds exactly for the function's result
abbrev pub IsGivenBy : {B : Type 0} → (B → ℕ → ℕ → Once → B → Type 0) → (B → ℕ → ℕ → Once × B) → Type 0
IsGivenBy {B} polls poll =
    (before after : B) (id weight : ℕ) (once : Once)
    → polls before id weight once after ↔ ((once ≡ (poll before id weight).0) × (after ≡ (poll before id weight).1))

-- law: if polls are a function, a run over a list of one thread is the function above: its result is a run, and every run has
-- its result
abbrev pub RunIsFunction : {B : Type 0} → (B → ℕ → ℕ → Once → B → Type 0) → Type 0
RunIsFunction {B} relation =
    (poll : B → ℕ → ℕ → Once × B) → IsGivenBy relation poll
    → (budget weight window : ℕ) → 1 ≤ budget → 1 ≤ window → (bench : B) (list : List ℕ)
    → (Chain (At relation weight) bench (run_of poll budget weight window bench list).0.polls
    (run_of poll budget weight window bench list).0.bench
    × IsPlainRun budget window list (run_of poll budget weight window bench list).0.polls (run_of poll budget weight window bench list).1
    (run_report budget window (run_of poll budget weight window bench list).0.polls))
    × ((polls : List Poll) (after : B) (left : List ℕ) (report : RunReport)
    → Chain (At relation weight) bench polls after → IsPlainRun budget window list polls left report
    → (polls ≡ (run_of poll budget weight window bench list).0.polls)
    × (after ≡ (run_of poll budget weight window bench list).0.bench)
    × (left ≡ (run_of poll budget weight window bench list).1)
    × (report ≡ run_report budget window (run_of poll budget weight window bench list).0.polls))

-- a bench's polls, seen through a view of the bench, are a function of that view
abbrev pub IsShownBy : {B V : Type 0} → (B → ℕ → ℕ → Once → B → Type 0) → (B → V) → (V → ℕ → ℕ → Once × V) → Type 0
IsShownBy {B} polls shown poll =
    (before after : B) (id weight : ℕ) (once : Once) → polls before id weight once after
    → (once ≡ (poll (shown before) id weight).0) × (shown after ≡ (poll (shown before) id weight).1)

-- law: then every run over a list of one thread, seen through the view, is the run of that function
abbrev pub RunIsShown : {B V : Type 0} → (B → ℕ → ℕ → Once → B → Type 0) → (B → V) → (V → ℕ → ℕ → Once × V) → Type 0
RunIsShown {B} relation shown poll =
    IsShownBy relation shown poll
    → (budget weight window : ℕ) → 1 ≤ budget → 1 ≤ window → (bench after : B) (list left : List ℕ) (polls : List Poll) (report : RunReport)
    → Chain (At relation weight) bench polls after → IsPlainRun budget window list polls left report
    → (polls ≡ (run_of poll budget weight window (shown bench) list).0.polls)
    × (shown after ≡ (run_of poll budget weight window (shown bench) list).0.bench)
    × (left ≡ (run_of poll budget weight window (shown bench) list).1)
    × (report ≡ run_report budget window (run_of poll budget weight window (shown bench) list).0.polls)
