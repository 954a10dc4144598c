-- A processor's poll list, and the polling run in progress over it (`struct softnet_data`).
use Rattle.std.specs.Prelude.{ℕ, ◌+◌, ◌&&◌, not, Bool, List, [], ◌∷◌, ◌++◌, drop, slice_get, Option, Some, None, if◌then◌else◌}
use Rattle.std.specs.Option.{option_and_then, option_map, option_map_or}
use Rattle.poll_runs.specs.{Polls.is_repoll, Run.is_squeezed, Turn.asked_for}
use Rattle.poll_runs.specs.declared.bench.{Next.TheVariants.{Gone, Repoll}, Once.Once}

pub record RunView : Type 0 where
  -- the numbers that the run took and hasn't polled; the next field has the repolls
  pub own : List ℕ
  pub repoll : List ℕ
  -- the number whose poll is in progress
  pub asked : Option ℕ
  -- how many polls the run made; the next field counts their packets
  pub polls : ℕ
  pub work : ℕ
  pub budget : ℕ
  pub weight : ℕ
  pub window : ℕ

pub record SoftirqView : Type 0 where
  pub list : List ℕ
  pub run : Option RunView
  -- when the run began, or the last run if none is in progress
  pub began : ℕ

abbrev pub asked_in : Option RunView → Option ℕ
asked_in run = option_and_then (λ r. r.asked) run

abbrev pub pushed : ℕ → SoftirqView → SoftirqView
pushed number q = record q { list = q.list ++ number ∷ [] }

-- a run begins and takes the whole list
abbrev pub begun : ℕ → ℕ → ℕ → ℕ → SoftirqView → SoftirqView
begun moment budget weight window q =
    let r : RunView =
    record { own = q.list; repoll = []; asked = None; polls = 0; work = 0; budget = budget; weight = weight; window = window } in
    record { list = []; run = Some r; began = moment }

-- the run is squeezed if it ends now
abbrev pub is_run_spent : RunView → Bool
is_run_spent r = is_squeezed r.budget r.window r.polls r.work

-- the run's own numbers, and the list: if all of its own numbers are polled and no repoll is pending, the run takes the whole
-- list
abbrev pub filled : List ℕ → List ℕ → List ℕ → List ℕ × List ℕ
filled [] [] list = (list, [])
filled own repoll list = (own, list)

-- the next poll of the run, if there is one
abbrev pub next_from : List ℕ × List ℕ → RunView → SoftirqView → SoftirqView
next_from (own, list) r q = record q { list = list; run = Some (record r { own = drop 1 own; asked = slice_get own 0 }) }

unfoldable pub run_next : SoftirqView → SoftirqView
run_next q = option_map_or (λ r. if is_run_spent r then q else next_from (filled r.own r.repoll q.list) r q) q.run q

-- the run after the poll of that number, with this outcome
abbrev pub polled_run : Once → RunView → RunView
polled_run once r =
    let repoll = r.repoll ++ (if is_repoll once.next then asked_for r.asked else []) in
    record r { repoll = repoll; asked = None; polls = r.polls + 1; work = r.work + once.work }

unfoldable pub softirq_polled : Once → SoftirqView → SoftirqView
softirq_polled once q = record q { run = option_map (polled_run once) q.run }

-- A poll that processed this many packets ends: if it used its whole weight (`full`), its number goes to the repolls. A queue that
-- completes and is scheduled again at once is on the list again.
abbrev pub poll_ended : ℕ → ℕ → Bool → Bool → SoftirqView → SoftirqView
poll_ended number given full again q =
    let r = softirq_polled (record { work = given; next = if full then Repoll else Gone }) q in
    if not full && again then pushed number r else r

-- the run ends: the list has what the run took and didn't poll, then what arrived meanwhile, then the repolls
unfoldable pub run_ended : SoftirqView → SoftirqView
run_ended q = record q { list = option_map_or (λ r. r.own ++ q.list ++ r.repoll) q.run q.list; run = None }
