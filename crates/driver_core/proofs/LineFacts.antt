-- The order in which devices are polled.
use Rattle.std.proofs.Common.{◌≡◌, ◌∙◌, inl, inr, ℕ, ◌+◌, ◌≤◌, Bool, true, false, List, [], ◌∷◌, ◌++◌, length}
use Rattle.std.proofs.Common.{refl, sym, ap, arith, Option, Some, None, MatchOption, length-append}
use Rattle.std.proofs.lemmas.{List.{append-nil, append_assoc}, List.Sums.count_by-le-length, Bool.cases_Bool}
use Rattle.std.specs.Prelude.{if◌then◌else◌}
use Rattle.std.specs.List.{concat}
use Rattle.poll_runs.specs.{Driven.held, Plain.{HasListRoom, NothingBehind, OwnPushes, all_held}, Turn.{HandsOn, Refills, asked_for}}
use Rattle.poll_runs.specs.{Steps.{Asks, Begins, HoldsNothing, has_spent}, declared.polling_run.PollingRun.PollingRun}
use Rattle.driver_core.specs.Device.{stage_is_listed}
use Rattle.driver_core.specs.Driver.{PutsDevice, PutsOnList, ReportsOf, driver_devices, joining, line_of, polled_device, said_of, stage_of}
use Rattle.driver_core.specs.Turns.{CallPolls, CallsPoll, PolledInTurn}
use Rattle.driver_core.specs.declared.{device.{Chore.Chore, DriverDevice.DriverDevice, Rearm.Rearm}, driver.Driver.Driver}

-- the line, from the run and the list
abbrev line_in : PollingRun → List ℕ → List ℕ
line_in run list = asked_for run.asked ++ run.own ++ list

refilled : (own list repoll filled after : List ℕ) → Refills all_held OwnPushes NothingBehind HasListRoom own list repoll filled after
    → filled ++ after ≡ own ++ list
refilled (id ∷ own) list repoll filled after r = rw (r.0, r.1) refl
refilled [] list (id ∷ repoll) filled after r = rw (r.0, r.1) refl
refilled [] list [] filled after r =
    let gives : filled ≡ list = r.takes.gives ∙ ap (λ (xs : List ℕ). list ++ xs) r.takes.moved ∙ append-nil list in
    rw (gives, r.takes.nothing_kept) (append-nil list)

asked-first : (answer : Option ℕ) (filled own rest : List ℕ) → MatchOption answer ((filled ≡ []) × (own ≡ [])) (λ id. filled ≡ id ∷ own)
    → asked_for answer ++ own ++ rest ≡ filled ++ rest
asked-first None filled own rest h = rw (h.0, h.1) refl
asked-first (Some id) filled own rest h = rw h refl

next_line : (list after : List ℕ) (run run' : PollingRun) → run.asked ≡ None
    → Asks all_held OwnPushes NothingBehind HasListRoom run list run'.asked run'.own after → line_in run' after ≡ line_in run list
next_line list after run run' rests a =
    asked-first run'.asked a.filled run'.own after a.first ∙ refilled run.own list run.repoll a.filled after a.refills
    ∙ sym (ap (λ (o : Option ℕ). asked_for o ++ run.own ++ list) rests)

-- the run goes on or ends, depending on whether its budget or window is used up
pub advance_line : (list after : List ℕ) (run run' : PollingRun) (answer : Option ℕ) → run.asked ≡ None
    → (has_spent run ≡ true → (answer ≡ None) × (run' ≡ run) × (after ≡ list))
    → (has_spent run ≡ false → Asks all_held OwnPushes NothingBehind HasListRoom run list answer run'.own after)
    → run'.asked ≡ answer
    → asked_for run'.asked ++ run'.own ++ after ≡ asked_for run.asked ++ run.own ++ list
advance_line list after run run' answer rests spent left asks = elim (cases_Bool (has_spent run)) [
  | inl over ↦ let same = spent over in rw (same.1, same.2) refl
  | inr more ↦ next_line list after run run' rests (rw asks (left more))
]

pub begin_line : (list after : List ℕ) (run run' : PollingRun) → HoldsNothing run
    → Begins all_held OwnPushes NothingBehind list run' after → run'.asked ≡ None
    → asked_for run'.asked ++ run'.own ++ after ≡ asked_for run.asked ++ run.own ++ list
begin_line list after run run' nothing b rests =
    let own : run'.own ≡ list = b.takes.gives ∙ ap (λ (xs : List ℕ). list ++ xs) b.takes.moved ∙ append-nil list in
    rw (rests, own, b.takes.nothing_kept, nothing.asked, nothing.own) (append-nil list)

pub finish_line : (list came after : List ℕ) (run run' : PollingRun) → run.asked ≡ None → HoldsNothing run'
    → came ≡ [] → after ≡ run.own ++ (list ++ came) ++ run.repoll
    → asked_for run'.asked ++ run'.own ++ after ≡ (asked_for run.asked ++ run.own ++ list) ++ run.repoll
finish_line list came after run run' rests nothing nobody back =
    rw (nothing.asked, nothing.own, rests, back, nobody, append-nil list) refl

-- the poll of a device ends, which leaves the line
pub polled_line : (list after : List ℕ) (run run' : PollingRun) (id : ℕ) (arrives : Bool) → run.asked ≡ Some id → run'.asked ≡ None
    → run'.own ≡ run.own → HandsOn all_held OwnPushes HasListRoom list arrives id after
    → (more : List ℕ) × (id ∷ asked_for run'.asked ++ run'.own ++ after ≡ (asked_for run.asked ++ run.own ++ list) ++ more)
polled_line list after run run' id false asked rests own h = ([], rw (asked, rests, own, h) (sym (append-nil (id ∷ run.own ++ list))))
polled_line list after run run' id true asked rests own h =
    (h.came, rw (asked, rests, own, h.entries_after) (ap (λ (xs : List ℕ). id ∷ xs) (sym (append_assoc run.own list h.came))))

-- ---- the law

joined : (before after : Driver) (id : ℕ) (to : DriverDevice) → PutsDevice id to before after
    → (more : List ℕ) × (line_of after ≡ line_of before ++ more)
joined before after id to puts =
    let joins : List ℕ = joining id (stage_of before id) to.stage in
    let first = asked_for before.run.asked ++ before.run.own in
    (joins, rw (puts.same.run, puts.list) (sym (append_assoc first before.list joins)))

listed : (before after : Driver) (id : ℕ) (to : DriverDevice) → PutsOnList id to before after
    → (more : List ℕ) × (line_of after ≡ line_of before ++ more)
listed before after id to puts =
    let joins : List ℕ = if stage_is_listed to.stage then id ∷ [] else [] in
    let first = asked_for before.run.asked ++ before.run.own in
    (joins, rw (puts.same.run, puts.list) (sym (append_assoc first before.list joins)))

reported : (packets : ℕ) (rearm : Rearm) (before after : Driver) (said : Option (ℕ × Chore)) (asked : Option ℕ)
    → ReportsOf packets rearm before after said asked → (more : List ℕ) × (asked_for asked ++ line_of after ≡ line_of before ++ more)
reported packets rearm before after said (Some id) h = h.line
reported packets rearm before after (Some said) None h = listed before after said.0 _ h
reported packets rearm before after None None h = absurd h

stays : (before after : Driver) → line_of after ≡ line_of before → (more : List ℕ) × (line_of after ≡ line_of before ++ more)
stays before after same = ([], same ∙ sym (append-nil (line_of before)))

one-call : (before after : Driver) (polled : List ℕ) → CallPolls before polled after
    → (more : List ℕ) × (polled ++ line_of after ≡ line_of before ++ more)
one-call before after polled (inl (packets, rearm, reports, is)) =
    let line = reported packets rearm before after (said_of before) (polled_device before) reports in
    (line.0, rw is line.1)
one-call before after polled (inr (inl (todo, asks, is))) = (asks.line.0, rw is asks.line.1)
one-call before after polled (inr (inr (inl (id, to, puts, is)))) =
    let line = joined before after id to puts in
    (line.0, rw is line.1)
one-call before after polled (inr (inr (inr (inr (id, chore, does, is))))) =
    let line = listed before after id _ does in
    (line.0, rw is line.1)
one-call before after polled (inr (inr (inr (inl (ends, is))))) =
    let line = stays before after (rw (ends.run, ends.list) refl) in
    (line.0, rw is line.1)

in-order : (before after : Driver) (polled : List (List ℕ)) → CallsPoll before polled after
    → (more : List ℕ) × (concat polled ++ line_of after ≡ line_of before ++ more)
in-order before after [] same = stays before after (ap (λ (d : Driver). line_of d) same)
in-order before after (polled ∷ rest) (next, call, calls) =
    let one = one-call before next polled call in
    let others = in-order next after rest calls in (
      one.0 ++ others.0,
      append_assoc polled (concat rest) (line_of after)
          ∙ ap (λ (xs : List ℕ). polled ++ xs) others.1
          ∙ sym (append_assoc polled (line_of next) others.0)
          ∙ ap (λ (xs : List ℕ). xs ++ others.0) one.1
          ∙ append_assoc (line_of before) one.0 others.0,
    )

few : (driver : Driver) → length (line_of driver) ≤ length (driver_devices driver)
few driver =
    let run = driver.run in
    let most = count_by-le-length (λ (d : DriverDevice). stage_is_listed d.stage) (driver_devices driver) in
    let first = asked_for run.asked ++ run.own in
    let line : length (line_of driver) ≡ length first + length driver.list = length-append first driver.list in
    let held-is : held run ≡ length first + length run.repoll = refl in
    omega (arith, most, driver.queue.size, line, held-is)

pub polled-in-turn : PolledInTurn
polled-in-turn = record { order = in-order; few = few }
