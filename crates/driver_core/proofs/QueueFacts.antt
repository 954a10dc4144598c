-- The effect of calls on the poll list and on the run over it.
use Rattle.std.proofs.Common.{◌≡◌, ◌≢◌, ◌∙◌, inl, inr, ◌⊎◌, ℕ, ◌+◌, ◌<◌, ◌≤◌, Bool, true, false, cond, List, [], ◌∷◌, ◌++◌, length}
use Rattle.std.proofs.Common.{refl, sym, ap, arith}
use Rattle.std.proofs.Common.{Option, Some, None, get_or, replicate, set, MatchOption, length-append}
use Rattle.std.proofs.lemmas.{List.{append-nil, get_or-set_other, get_or-set_same, get_or_default, get_or_past}}
use Rattle.std.proofs.lemmas.List.Elements.{All-get_or, All-replicate, All-set}
use Rattle.std.proofs.lemmas.{List.Sums.{sum_by-append, sum_by-set, count_by-le-length}}
use Rattle.std.proofs.lemmas.{Bool.{cases_Bool, cases_eq, cases_lt, eq-eqb}, Bool.Decides.eqb_tells}
use Rattle.std.proofs.Math.ListN.{length-set}
use Rattle.std.specs.Prelude.{◌==◌, ◌||◌, if◌then◌else◌}
use Rattle.std.specs.List.{All}
use Rattle.poll_runs.specs.declared.bench.Next.TheVariants as next
use Rattle.napi_model.specs.declared.state.Kind.TheVariants as kind
use Rattle.poll_runs.specs.{Driven.held, Plain.{HasListRoom, NothingBehind, OwnPushes, all_held}, Turn.{HandsOn, Refills, asked_for}}
use Rattle.poll_runs.specs.{Polls.{is_arrival, is_repoll}, Steps.{Asks, Begins, HoldsNothing, has_spent}}
use Rattle.poll_runs.specs.{declared.{bench.Next.Next, polling_run.PollingRun.PollingRun}}
use Rattle.driver_core.specs.Device.{in_stage, chore_at, completed_at, stage_is_listed, is_stopping, after_driver_poll, after_poll_at}
use Rattle.driver_core.specs.Device.{IsAtRest, rearmed_at}
use Rattle.driver_core.specs.{Queue.{IsStillDue, HasWeights, IsQueue, device_at, listed_at, listed_in, occurs}}
use Rattle.driver_core.specs.{Driver.no_pacing, Pacing.{is_paced, paced_after, paced_count, new_pacing, plain_settings}}
use Rattle.driver_core.specs.declared.{limits.Limits.Limits, pacing.{DeviceSettings.DeviceSettings, Pacing.Pacing}}
use Rattle.driver_core.specs.declared.device.{Chore.Chore, DriverDevice.DriverDevice, Rearm.{Rearm, TheVariants.{No, Empty, More}}}
use Rattle.driver_core.specs.declared.device.{Stage.{Stage, TheVariants.{Closed, Masking, Closing, Listed, Unmasking, Looking, Armed}}}
use Rattle.driver_core.specs.declared.device.Stage.TheVariants.{Deferring, Deferred}

-- ---- devices

abbrev flag : Bool → ℕ
flag b = cond b 1 0

listed-same : (devices : List DriverDevice) (id : ℕ) (to : DriverDevice) → id < length devices
    → listed_at (set devices id to) id ≡ stage_is_listed to.stage
listed-same devices id to lt = ap (λ (d : DriverDevice). stage_is_listed d.stage) (get_or-set_same devices id to (in_stage Closed false) lt)

listed-other : (devices : List DriverDevice) (id k : ℕ) (to : DriverDevice) → k ≢ id → listed_at (set devices id to) k ≡ listed_at devices k
listed-other devices id k to ne = ap (λ (d : DriverDevice). stage_is_listed d.stage)
    (get_or-set_other devices id k to (in_stage Closed false) ne)

sum-set : (devices : List DriverDevice) (id : ℕ) (to : DriverDevice) → id < length devices
    → listed_in (set devices id to) + cond (listed_at devices id) 1 0 ≡ listed_in devices + cond (stage_is_listed to.stage) 1 0
sum-set devices id to lt = sum_by-set (λ (d : DriverDevice). cond (stage_is_listed d.stage) 1 0) devices id to (in_stage Closed false) lt

-- replacing a device by one that is listed exactly if it was changes nothing
pub put_same : (devices : List DriverDevice) (list : List ℕ) (run : PollingRun) (id : ℕ) (to : DriverDevice) → id < length devices
    → stage_is_listed to.stage ≡ listed_at devices id → IsQueue devices list run → IsQueue (set devices id to) list run
put_same devices list run id to lt same q = record {
  each = λ k. q.each k ∙ sym (ap (λ (b : Bool). cond b 1 0) (elim (cases_eq k id) [
    | inl e ↦ rw e (listed-same devices id to lt ∙ same)
    | inr ne ↦ listed-other devices id k to ne
  ]));
  size = let s = sum-set devices id to lt in let t = rw same at s in omega (arith, t, q.size);
}

-- ---- weights

pub new_weights : (limits : Limits) (count : ℕ) → 1 ≤ limits.weight
    → HasWeights limits (replicate count (new_pacing (plain_settings limits.weight)))
new_weights limits count some =
    All-replicate (λ (q : Pacing). (1 ≤ q.settings.weight) × (q.settings.weight ≤ limits.weight)) count
    (new_pacing (plain_settings limits.weight)) (some, omega arith)

-- a device gets settings with a weight within the driver's
pub put_weights : (limits : Limits) (pacings : List Pacing) (id : ℕ) (p : Pacing) → 1 ≤ p.settings.weight
    → p.settings.weight ≤ limits.weight → HasWeights limits pacings → HasWeights limits (set pacings id p)
put_weights limits pacings id p some most each =
    All-set (λ (q : Pacing). (1 ≤ q.settings.weight) × (q.settings.weight ≤ limits.weight)) pacings id p (some, most) each

pub weight_within : (limits : Limits) (pacings : List Pacing) (id : ℕ) → id < length pacings → HasWeights limits pacings
    → (1 ≤ (get_or pacings id no_pacing).settings.weight) × ((get_or pacings id no_pacing).settings.weight ≤ limits.weight)
weight_within limits pacings id lt each =
    All-get_or (λ (q : Pacing). (1 ≤ q.settings.weight) × (q.settings.weight ≤ limits.weight)) pacings id no_pacing lt each

kept-if : (paced completes : Bool) (packets : ℕ) (p : Pacing)
    → (if paced then paced_count completes packets p else p).settings ≡ p.settings
kept-if true true packets p = refl
kept-if true false packets p = refl
kept-if false completes packets p = refl

kept-settings : (completes : Bool) (packets : ℕ) (p : Pacing) → (paced_after completes packets p).settings ≡ p.settings
kept-settings completes packets p = kept-if (is_paced p.settings) completes packets p

-- after a poll each weight is within the driver's
pub polled_weights : (limits : Limits) (pacings : List Pacing) (id : ℕ) (completes : Bool) (packets : ℕ) → id < length pacings
    → HasWeights limits pacings → HasWeights limits (set pacings id (paced_after completes packets (get_or pacings id no_pacing)))
polled_weights limits pacings id completes packets lt each =
    let p = get_or pacings id no_pacing in
    let within = weight_within limits pacings id lt each in
    let same : (paced_after completes packets p).settings.weight ≡ p.settings.weight =
    ap (λ (s : DeviceSettings). s.weight) (kept-settings completes packets p) in
    put_weights limits pacings id (paced_after completes packets p) (omega (arith, same, within.0)) (omega (arith, same, within.1)) each

-- ---- numbers

occurs-append : (k : ℕ) (xs ys : List ℕ) → occurs k (xs ++ ys) ≡ occurs k xs + occurs k ys
occurs-append k xs ys = sum_by-append (λ x. cond (x == k) 1 0) xs ys

occurs-itself : (k id : ℕ) → k ≡ id → occurs k (id ∷ []) ≡ 1
occurs-itself k id e = ap (λ (b : Bool). 0 + cond b 1 0) (eq-eqb id k (sym e))

occurs-other : (k id : ℕ) → k ≢ id → occurs k (id ∷ []) ≡ 0
occurs-other k id ne = elim (eqb_tells id k) [
  | inl a ↦ absurd (ne (sym a.1))
  | inr a ↦ ap (λ (b : Bool). 0 + cond b 1 0) a.0
]

-- the list has room for a device that isn't listed
pub room : (devices : List DriverDevice) (list : List ℕ) (run : PollingRun) (id : ℕ) → id < length devices → listed_at devices id ≡ false
    → IsQueue devices list run → length list + held run < length devices
room devices list run id lt unlisted q =
    let to : DriverDevice = in_stage (Listed false) false in
    let s = sum-set devices id to lt in
    let t = rw unlisted at s in
    let most = count_by-le-length (λ (d : DriverDevice). stage_is_listed d.stage) (set devices id to) in
    omega (arith, t, most, q.size, length-set devices id to)

-- a device that wasn't listed and now is was appended to the list
pub put_new : (devices : List DriverDevice) (list : List ℕ) (run : PollingRun) (id : ℕ) (to : DriverDevice) → id < length devices
    → listed_at devices id ≡ false → stage_is_listed to.stage ≡ true → IsQueue devices list run
    → IsQueue (set devices id to) (list ++ id ∷ []) run
put_new devices list run id to lt unlisted listed q = record {
  each = λ k. elim (cases_eq k id) [
    | inl e ↦
        let on : listed_at (set devices id to) k ≡ true = rw e (listed-same devices id to lt ∙ listed) in
        let off : listed_at devices k ≡ false = rw e unlisted in
        let now : flag (listed_at (set devices id to) k) ≡ 1 = ap flag on in
        let before : flag (listed_at devices k) ≡ 0 = ap flag off in
        omega (arith, now, before, q.each k, occurs-append k list (id ∷ []), occurs-itself k id e)
    | inr ne ↦
        let same : flag (listed_at (set devices id to) k) ≡ flag (listed_at devices k) = ap flag (listed-other devices id k to ne) in
        omega (arith, same, q.each k, occurs-append k list (id ∷ []), occurs-other k id ne)
  ];
  size =
      let s = sum-set devices id to lt in let t = rw (unlisted, listed) at s in
      omega (arith, t, q.size, length-append list (id ∷ []));
}

-- ---- the run

-- a sum over lists doesn't change if numbers are moved between the lists
module _ (m : List ℕ → ℕ) (add : (xs ys : List ℕ) → m (xs ++ ys) ≡ m xs + m ys) where
  none : m [] ≡ 0
  none = omega (arith, add [] [])

  refilled : (own list repoll filled after : List ℕ) → Refills all_held OwnPushes NothingBehind HasListRoom own list repoll filled after
      → m filled + m after ≡ m own + m list
  refilled (id ∷ own) list repoll filled after r = rw (r.0, r.1) refl
  refilled [] list (id ∷ repoll) filled after r = rw (r.0, r.1) refl
  refilled [] list [] filled after r =
      let gives : filled ≡ list = r.takes.gives ∙ ap (λ (xs : List ℕ). list ++ xs) r.takes.moved ∙ append-nil list in
      rw (gives, r.takes.nothing_kept) (omega (arith, none))

  asks-first : (answer : Option ℕ) (filled own : List ℕ) → MatchOption answer ((filled ≡ []) × (own ≡ [])) (λ id. filled ≡ id ∷ own)
      → m filled ≡ m (asked_for answer) + m own
  asks-first None filled own h = rw (h.0, h.1) (omega (arith, none))
  asks-first (Some id) filled own h = rw h (add (id ∷ []) own)

  asks-keep : (run : PollingRun) (list own after : List ℕ) (answer : Option ℕ)
      → Asks all_held OwnPushes NothingBehind HasListRoom run list answer own after
      → m (asked_for answer) + m own + m after ≡ m run.own + m list
  asks-keep run list own after answer a =
      omega (arith, refilled run.own list run.repoll a.filled after a.refills, asks-first answer a.filled own a.first)

held-is : (run : PollingRun) → held run ≡ length (asked_for run.asked) + length run.own + length run.repoll
held-is run = ap (λ (n : ℕ). n + length run.repoll) (length-append (asked_for run.asked) run.own)

-- the run returns its next poll
pub next_keeps : (devices : List DriverDevice) (list after : List ℕ) (run run' : PollingRun) → run.asked ≡ None
    → Asks all_held OwnPushes NothingBehind HasListRoom run list run'.asked run'.own after → run'.repoll ≡ run.repoll
    → IsQueue devices list run → IsQueue devices after run'
next_keeps devices list after run run' rests a repoll q =
    let count : (k : ℕ) → occurs k (asked_for run'.asked) + occurs k run'.own + occurs k after ≡ occurs k run.own + occurs k list =
    λ k. asks-keep (occurs k) (occurs-append k) run list run'.own after run'.asked a in
    let sizes = asks-keep length length-append run list run'.own after run'.asked a in
    let idle : (k : ℕ) → occurs k (asked_for run.asked) ≡ 0 = λ k. ap (λ (o : Option ℕ). occurs k (asked_for o)) rests in
    let idle-length : length (asked_for run.asked) ≡ 0 = ap (λ (o : Option ℕ). length (asked_for o)) rests in
    record {
      each = λ k. omega (arith, count k, idle k, ap (occurs k) repoll, q.each k);
      size = omega (arith, sizes, idle-length, ap (λ (xs : List ℕ). length xs) repoll, q.size, held-is run, held-is run');
    }

-- the run goes on or ends, depending on whether its budget or window is used up
pub advance_keeps : (devices : List DriverDevice) (list after : List ℕ) (run run' : PollingRun) (answer : Option ℕ) → run.asked ≡ None
    → (has_spent run ≡ true → (answer ≡ None) × (run' ≡ run) × (after ≡ list))
    → (has_spent run ≡ false → Asks all_held OwnPushes NothingBehind HasListRoom run list answer run'.own after)
    → run'.asked ≡ answer → run'.repoll ≡ run.repoll
    → IsQueue devices list run → IsQueue devices after run'
advance_keeps devices list after run run' answer rests spent left asks repoll q =
    elim (cases_Bool (has_spent run)) [
      | inl over ↦ let same = spent over in rw (same.1, same.2) q
      | inr more ↦ next_keeps devices list after run run' rests (rw asks (left more)) repoll q
    ]

-- a run begins
pub begin_keeps : (devices : List DriverDevice) (list after : List ℕ) (run run' : PollingRun) → HoldsNothing run
    → Begins all_held OwnPushes NothingBehind list run' after → run'.asked ≡ None
    → IsQueue devices list run → IsQueue devices after run'
begin_keeps devices list after run run' nothing b rests q =
    let own : run'.own ≡ list = b.takes.gives ∙ ap (λ (xs : List ℕ). list ++ xs) b.takes.moved ∙ append-nil list in
    let moved : (m : List ℕ → ℕ) → ((xs ys : List ℕ) → m (xs ++ ys) ≡ m xs + m ys)
    → (m after + (m (asked_for run'.asked) + (m run'.own + m run'.repoll))
    ≡ m list + (m (asked_for run.asked) + (m run.own + m run.repoll))) =
    λ m add. omega (
      arith,
      none m add,
      ap m own,
      ap m b.takes.nothing_kept,
      ap m b.repoll,
      ap m nothing.own,
      ap m nothing.repoll,
      ap (λ (o : Option ℕ). m (asked_for o)) rests,
      ap (λ (o : Option ℕ). m (asked_for o)) nothing.asked,
    ) in
    record {
      each = λ k. moved (occurs k) (occurs-append k) ∙ q.each k;
      size = omega (arith, moved length length-append, q.size, held-is run, held-is run');
    }

-- a run ends
pub finish_keeps : (devices : List DriverDevice) (list came after : List ℕ) (run run' : PollingRun) → run.asked ≡ None → HoldsNothing run'
    → came ≡ [] → after ≡ run.own ++ (list ++ came) ++ run.repoll
    → IsQueue devices list run → IsQueue devices after run'
finish_keeps devices list came after run run' rests nothing nobody back q =
    let moved : (m : List ℕ → ℕ) → ((xs ys : List ℕ) → m (xs ++ ys) ≡ m xs + m ys)
    → (m after + (m (asked_for run'.asked) + (m run'.own + m run'.repoll))
    ≡ m list + (m (asked_for run.asked) + (m run.own + m run.repoll))) =
    λ m add. omega (
      arith,
      none m add,
      ap m back,
      add run.own ((list ++ came) ++ run.repoll),
      add (list ++ came) run.repoll,
      add list came,
      ap m nobody,
      ap m nothing.own,
      ap m nothing.repoll,
      ap (λ (o : Option ℕ). m (asked_for o)) rests,
      ap (λ (o : Option ℕ). m (asked_for o)) nothing.asked,
    ) in
    record {
      each = λ k. moved (occurs k) (occurs-append k) ∙ q.each k;
      size = omega (arith, moved length length-append, q.size, held-is run, held-is run');
    }

-- ---- a poll

-- after the poll its device goes back to the list, or gets a repoll
abbrev pub comes_back : Next → Bool
comes_back next = is_arrival next || is_repoll next

module _ (m : List ℕ → ℕ) (add : (xs ys : List ℕ) → m (xs ++ ys) ≡ m xs + m ys) where
  handed : (next : Next) (id : ℕ) (list after repoll : List ℕ) → HandsOn all_held OwnPushes HasListRoom list (is_arrival next) id after
      → m after + m (repoll ++ (if is_repoll next then id ∷ [] else [])) ≡ m list + m repoll + cond (comes_back next) (m (id ∷ [])) 0
  handed next.Absent id list after repoll h = rw (h, add repoll []) (omega (arith, none m add))
  handed next.Gone id list after repoll h = rw (h, add repoll []) (omega (arith, none m add))
  handed (next.Again kind.Thread) id list after repoll h = rw (h, add repoll []) (omega (arith, none m add))
  handed (next.Again kind.List) id list after repoll h =
      omega (arith, none m add, add repoll [], ap m h.entries_after, add list h.came, ap m h.moved)
  handed next.Repoll id list after repoll h = rw (h, add repoll (id ∷ [])) (omega arith)

cond-same : (b : Bool) (n : ℕ) → cond b n n ≡ n
cond-same true n = refl
cond-same false n = refl

flag-one : (b : Bool) → 1 ≤ flag b → b ≡ true
flag-one true h = refl
flag-one false h = absurd (omega arith)

-- the device that is being polled is a listed one
pub asked_is_listed : (devices : List DriverDevice) (list : List ℕ) (run : PollingRun) (id : ℕ) → run.asked ≡ Some id
    → IsQueue devices list run → listed_at devices id ≡ true
asked_is_listed devices list run id asked q =
    let one : occurs id (asked_for run.asked) ≡ occurs id (id ∷ []) = ap (λ (o : Option ℕ). occurs id (asked_for o)) asked in
    flag-one (listed_at devices id) (omega (arith, q.each id, one, occurs-itself id id refl))

pub asked_in_range : (devices : List DriverDevice) (list : List ℕ) (run : PollingRun) (id : ℕ) → run.asked ≡ Some id
    → IsQueue devices list run → id < length devices
asked_in_range devices list run id asked q = elim (cases_lt id (length devices)) [
  | inl lt ↦ lt
  | inr past ↦
      let none : listed_at devices id ≡ false =
      ap (λ (d : DriverDevice). stage_is_listed d.stage) (get_or_past devices id (in_stage Closed false) past) in
      let both : true ≡ false = sym (asked_is_listed devices list run id asked q) ∙ none in
      absurd (cc both)
]

pub polled_keeps : (devices : List DriverDevice) (list after : List ℕ) (run run' : PollingRun) (id : ℕ) (to : DriverDevice) (next : Next)
    → id < length devices → run.asked ≡ Some id → run'.asked ≡ None → run'.own ≡ run.own
    → run'.repoll ≡ run.repoll ++ (if is_repoll next then id ∷ [] else [])
    → HandsOn all_held OwnPushes HasListRoom list (is_arrival next) id after
    → stage_is_listed to.stage ≡ comes_back next
    → IsQueue devices list run → IsQueue (set devices id to) after run'
polled_keeps devices list after run run' id to next lt asked rests own repoll hands back q =
    let was : flag (listed_at devices id) ≡ 1 = ap flag (asked_is_listed devices list run id asked q) in
    let now : flag (stage_is_listed to.stage) ≡ flag (comes_back next) = ap flag back in
    let moved : (m : List ℕ → ℕ) → ((xs ys : List ℕ) → m (xs ++ ys) ≡ m xs + m ys)
    → (m after + (m (asked_for run'.asked) + (m run'.own + m run'.repoll)) + m (id ∷ [])
    ≡ m list + (m (asked_for run.asked) + (m run.own + m run.repoll)) + cond (comes_back next) (m (id ∷ [])) 0) =
    λ m add. omega (
      arith,
      none m add,
      handed m add next id list after run.repoll hands,
      ap m repoll,
      ap m own,
      ap (λ (o : Option ℕ). m (asked_for o)) rests,
      ap (λ (o : Option ℕ). m (asked_for o)) asked,
    ) in
    record {
      each = λ k. elim (cases_eq k id) [
        | inl e ↦
            let one = occurs-itself k id e in
            let extra : cond (comes_back next) (occurs k (id ∷ [])) 0 ≡ flag (comes_back next) =
            ap (λ (n : ℕ). cond (comes_back next) n 0) one in
            let to-now : flag (listed_at (set devices id to) k) ≡ flag (stage_is_listed to.stage) =
            rw e (ap flag (listed-same devices id to lt)) in
            let before : flag (listed_at devices k) ≡ 1 = rw e was in
            omega (arith, moved (occurs k) (occurs-append k), q.each k, one, extra, to-now, before, now)
        | inr ne ↦
            let other = occurs-other k id ne in
            let extra : cond (comes_back next) (occurs k (id ∷ [])) 0 ≡ 0 =
            ap (λ (n : ℕ). cond (comes_back next) n 0) other ∙ cond-same (comes_back next) 0 in
            let same : flag (listed_at (set devices id to) k) ≡ flag (listed_at devices k) = ap flag (listed-other devices id k to ne) in
            omega (arith, moved (occurs k) (occurs-append k), q.each k, other, extra, same)
      ];
      size = omega (arith, moved length length-append, q.size, held-is run, held-is run', sum-set devices id to lt, was, now);
    }

-- ---- when the thread may sleep

rests-at : (stage : Stage) → chore_at stage ≡ None → stage_is_listed stage ≡ false → IsAtRest stage
rests-at Closed c l = tt
rests-at (Masking stopping) c l = cc
rests-at Closing c l = cc
rests-at (Listed stopping) c l = cc
rests-at Unmasking c l = cc
rests-at Looking c l = cc
rests-at Armed c l = tt
rests-at Deferring c l = cc
rests-at Deferred c l = tt

flag-none : (b : Bool) → flag b ≡ 0 → b ≡ false
flag-none true h = absurd (omega arith)
flag-none false h = refl

-- if no card needs an action and nothing is on the list, each device is at rest
pub all_rest : (devices : List DriverDevice) (list : List ℕ) (run : PollingRun)
    → All (λ (d : DriverDevice). chore_at d.stage ≡ None) devices
    → list ≡ [] → HoldsNothing run → IsQueue devices list run → All (λ (d : DriverDevice). IsAtRest d.stage) devices
all_rest devices list run chores empty nothing q k d lt =
    let e : get_or devices k d ≡ device_at devices k = get_or_default devices k d (in_stage Closed false) lt in
    let unlisted : listed_at devices k ≡ false =
    flag-none (listed_at devices k) (omega (
      arith,
      q.each k,
      ap (occurs k) empty,
      ap (occurs k) nothing.own,
      ap (occurs k) nothing.repoll,
      ap (λ (o : Option ℕ). occurs k (asked_for o)) nothing.asked,
    )) in
    rests-at (get_or devices k d).stage (chores k d lt) (rw e unlisted)

-- ---- the devices

after-completion : (defers stopping missed : Bool)
    → stage_is_listed (completed_at defers stopping missed).0.stage ≡ comes_back (completed_at defers stopping missed).1
after-completion defers stopping true = refl
after-completion true false false = refl
after-completion false false false = refl
after-completion defers true false = refl

after-poll : (stays defers stopping missed : Bool)
    → stage_is_listed (after_poll_at stays defers stopping missed).0.stage ≡ comes_back (after_poll_at stays defers stopping missed).1
after-poll true defers false missed = refl
after-poll true defers true missed = after-completion defers true missed
after-poll false defers stopping missed = after-completion defers stopping missed

after-rearm : (has_more stopping missed : Bool) → stage_is_listed (rearmed_at has_more stopping missed).stage ≡ false
after-rearm has_more stopping true = refl
after-rearm has_more true false = refl
after-rearm true false false = refl
after-rearm false false false = refl

-- after a poll, a device is listed exactly if its number goes back to the list
pub polled_listed : (stays defers : Bool) (rearm : Rearm) (d : DriverDevice)
    → stage_is_listed (after_driver_poll stays defers rearm d).0.stage ≡ comes_back (after_driver_poll stays defers rearm d).1
polled_listed stays defers No d = after-poll stays defers (is_stopping d.stage) d.missed
polled_listed stays defers Empty d = after-rearm false (is_stopping d.stage) d.missed
polled_listed stays defers More d = after-rearm true (is_stopping d.stage) d.missed

-- ---- the last action that was asked for

-- the action that was asked for last is still due after a device changed, if it is kept
pub put_asked : (devices : List DriverDevice) (polled : Option ℕ) (said kept : Option (ℕ × Chore)) (id : ℕ) (to : DriverDevice)
    → id < length devices
    → (kept ≡ said) ⊎ (kept ≡ None)
    → ((k : ℕ) (chore : Chore) → kept ≡ Some (k, chore) → (k ≢ id) ⊎ (chore_at to.stage ≡ Some chore))
    → IsStillDue devices polled said → IsStillDue (set devices id to) polled kept
put_asked devices run-asked said kept id to lt same due a =
    let was : (k : ℕ) (chore : Chore) → kept ≡ Some (k, chore) → said ≡ Some (k, chore) =
    λ k chore e. elim same [ inl s ↦ sym s ∙ e | inr gone ↦ let both : None ≡ Some (k, chore) = sym gone ∙ e in absurd (cc both) ] in
    record {
      range = λ k chore e. omega (arith, a.range k chore (was k chore e), length-set devices id to);
      chore = λ k chore e. elim (cases_eq k id) [
        | inl here ↦
            let is : device_at (set devices id to) k ≡ to = rw here (get_or-set_same devices id to (in_stage Closed false) lt) in
            elim (due k chore e) [
              | inl ne ↦ absurd (ne here)
              | inr c ↦ ap (λ (d : DriverDevice). chore_at d.stage) is ∙ c
            ]
        | inr ne ↦
            let is : device_at (set devices id to) k ≡ device_at devices k = get_or-set_other devices id k to (in_stage Closed false) ne in
            ap (λ (d : DriverDevice). chore_at d.stage) is ∙ a.chore k chore (was k chore e)
      ];
      alone = λ k chore e. a.alone k chore (was k chore e);
    }

same-pair : (one other : ℕ × Chore) → Some one ≡ Some other → (other.0 ≡ one.0) × (one.1 ≡ other.1)
same-pair one other e =
    let pair : one ≡ other = cc e in
    (sym (ap (λ (x : ℕ × Chore). x.0) pair), ap (λ (x : ℕ × Chore). x.1) pair)

-- the action that is asked for now is due
pub said_due : (devices : List DriverDevice) (polled : Option ℕ) (id : ℕ) (chore : Chore) → id < length devices
    → chore_at (device_at devices id).stage ≡ Some chore → polled ≡ None → IsStillDue devices polled (Some (id, chore))
said_due devices polled id chore lt is idle = record {
  range = λ k c e. omega (arith, lt, (same-pair (id, chore) (k, c) e).0);
  chore = λ k c e. let same = same-pair (id, chore) (k, c) e in rw same.0 (is ∙ ap (λ (x : Chore). Some x) same.1);
  alone = λ k c e. idle;
}

-- while a device is being polled, no action at a card is asked for
pub asked_alone : (devices : List DriverDevice) (polled : Option ℕ) (id : ℕ) (said : Option (ℕ × Chore)) → polled ≡ Some id
    → IsStillDue devices polled said → said ≡ None
asked_alone devices run-asked id None is a = refl
asked_alone devices run-asked id (Some (k, chore)) is a =
    let both : Some id ≡ None = sym is ∙ a.alone k chore refl in
    absurd (cc both)
