-- How many numbers are on the poll list and in its run after each call, and the weight of the run.
use Rattle.std.proofs.{Common.{◌≡◌, ℕ, ◌+◌, Bool, true, false, Option, Some, None, List, [], ◌∷◌, ◌++◌, drop, length, length-append, refl}}
use Rattle.std.{proofs.{Common.arith, lemmas.Grind.common_steps}, specs.{Prelude.{◌||◌, is_some, slice_get, if◌then◌else◌, option_map}}}
use Rattle.poll_runs.specs.{Turn.asked_for, declared.bench.{Next.TheVariants.{Gone, Repoll}, Once.Once}}
use Rattle.machine_model.specs.{Shown.{weight_in, listed}, Softirq.{RunView, SoftirqView, asked_in, begun, run_ended, filled, run_next}}
use Rattle.machine_model.specs.Softirq.{poll_ended, polled_run, pushed, softirq_polled}

pub listed-pushed : (n : ℕ) (q : SoftirqView) → listed (pushed n q) ≡ listed q + 1
listed-pushed n q = omega (arith, length-append q.list (n ∷ []))

-- what a call doesn't change
pub record Same (q r : SoftirqView) : Type 0 where
  pub listed : listed r ≡ listed q
  pub some : is_some r.run ≡ is_some q.run
  pub weight : weight_in r.run ≡ weight_in q.run

-- the next poll of a run, or its end, only moves numbers between the lists
next-moves : (own repoll list : List ℕ)
    → length ((filled own repoll list).1)
    + (length (asked_for (slice_get (filled own repoll list).0 0) ++ drop 1 (filled own repoll list).0) + length repoll)
    ≡ length list + (length own + length repoll)
next-moves own repoll list = grind (arith, common_steps)

next-same : (list : List ℕ) (run : Option RunView) (began : ℕ) → asked_in run ≡ None
    → let q : SoftirqView = record { list = list; run = run; began = began } in Same q (run_next q)
unfolding run_next
next-same list run began h1 = grind (arith, common_steps, next-moves)

pub next-keeps : (q : SoftirqView) → asked_in q.run ≡ None → Same q (run_next q)
unfolding run_next
next-keeps q none = next-same q.list q.run q.began none

begun-same : (list : List ℕ) (run : Option RunView) (began moment budget weight window : ℕ) → run ≡ None
    → let q : SoftirqView = record { list = list; run = run; began = began } in listed (begun moment budget weight window q) ≡ listed q
begun-same list run began moment budget weight window none = grind (arith, common_steps)

pub listed-begun : (moment budget weight window : ℕ) (q : SoftirqView) → q.run ≡ None
    → listed (begun moment budget weight window q) ≡ listed q
listed-begun moment budget weight window q none = begun-same q.list q.run q.began moment budget weight window none

ended-same : (list : List ℕ) (run : Option RunView) (began : ℕ) → asked_in run ≡ None
    → let q : SoftirqView = record { list = list; run = run; began = began } in listed (run_ended q) ≡ listed q
unfolding run_ended
ended-same list run began none = grind (arith, common_steps)

pub listed-ended : (q : SoftirqView) → asked_in q.run ≡ None → listed (run_ended q) ≡ listed q
listed-ended q none = ended-same q.list q.run q.began none

-- after a poll that used its whole weight, its number goes to the repolls; after any other poll it leaves
polled-moves : (full : Bool) (work n : ℕ) (list : List ℕ) (run : Option RunView) (began : ℕ) → asked_in run ≡ Some n
    → let q : SoftirqView = record { list = list; run = run; began = began } in
    listed (softirq_polled (record { work = work; next = if full then Repoll else Gone }) q) + (if full then 0 else 1) ≡ listed q
unfolding softirq_polled
polled-moves full work n list run began asked = grind (arith, common_steps)

pub listed-polled : (full : Bool) (work n : ℕ) (q : SoftirqView) → asked_in q.run ≡ Some n
    → listed (softirq_polled (record { work = work; next = if full then Repoll else Gone }) q) + (if full then 0 else 1) ≡ listed q
listed-polled full work n q asked = polled-moves full work n q.list q.run q.began asked

-- a queue that completes and missed an interrupt is put on the list again
pub listed-again : (full missed : Bool) (work n : ℕ) (q : SoftirqView) → asked_in q.run ≡ Some n
    → listed (poll_ended n work full missed q) + (if full || missed then 0 else 1) ≡ listed q
listed-again full missed work n q h1 = grind (arith, common_steps, listed-polled, listed-pushed)

pub pushed-run : (b : Bool) (n : ℕ) (q : SoftirqView) → (if b then pushed n q else q).run ≡ q.run
pushed-run true n q = refl
pushed-run false n q = refl

polled-rests : (run : Option RunView) (once : Once) → asked_in (option_map (polled_run once) run) ≡ None
polled-rests run once = grind (arith, common_steps)

pub asked-polled : (once : Once) (q : SoftirqView) → asked_in (softirq_polled once q).run ≡ None
unfolding softirq_polled
asked-polled once q = polled-rests q.run once

polled-weighs : (run : Option RunView) (once : Once)
    → (weight_in (option_map (polled_run once) run) ≡ weight_in run) × (is_some (option_map (polled_run once) run) ≡ is_some run)
polled-weighs run once = grind (arith, common_steps)

pub weight-polled : (once : Once) (q : SoftirqView)
    → (weight_in (softirq_polled once q).run ≡ weight_in q.run) × (is_some (softirq_polled once q).run ≡ is_some q.run)
unfolding softirq_polled
weight-polled once q = polled-weighs q.run once
