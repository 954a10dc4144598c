-- A mask that is joined to the action after it: that action is a fetch.
use Rattle.std.proofs.Common.{◌≡◌, ◌≢◌, ◌∙◌, inl, inr, ◌⊎◌, ℕ, ◌+◌, ◌<◌, ◌≤◌, Bool, true, false, List, [], ◌∷◌, ◌++◌, length, refl}
use Rattle.std.proofs.Common.{sym, ap, arith, subst, cond, get_or, set, rules}
use Rattle.std.proofs.Common.{Option, Some, None, Result, Ok, Err}
use Rattle.std.proofs.lemmas.{Bool.cases_eq, List.{get_or-set_other, get_or-set_same}, List.Elements.All-get_or}
use Rattle.std.proofs.Math.ListN.{length-set}
use Rattle.std.specs.{Prelude.{◌||◌, nat_le, ⊤}, List.{concat}}
use Rattle.poll_runs.specs.{Run.{IsRun, is_spent}, Laws.{IsPlainRun}, Steps.HoldsNothing, Turn.asked_for}
use Rattle.poll_runs.specs.{declared.run.RunReport.{RunReport}}
use Rattle.poll_runs.proofs.PlainFacts.{own-arrivals}
use Rattle.driver_core.specs.Device.{after_interrupt, IsAtRest, chore_at, did, in_stage, masked_at, masks_for_poll, stage_is_listed}
use Rattle.driver_core.specs.Driver.{AsksJoined, AsksNext, AwaitsNothing, InterruptsIn, IsDone, IsTurn, NextJoined, polled_device}
use Rattle.driver_core.specs.Driver.{said_of, IsDue, IsDriverReport, JoinsMask, device_of, driver_devices, list_of, no_pacing}
use Rattle.driver_core.specs.Driver.{stage_of, weight_of}
use Rattle.driver_core.specs.{Queue.{IsQueue, device_at, listed_at, occurs}}
use Rattle.driver_core.specs.{Turns.{CallPolls, CallsPoll, MaskedFirstIsFetched, TurnsAreCalls}}
use Rattle.driver_core.specs.declared.device.{Chore.Chore, DriverDevice.DriverDevice, Rearm.Rearm}
use Rattle.driver_core.specs.declared.device.Chore.TheVariants as chore
use Rattle.driver_core.specs.declared.device.Stage.{Stage}
use Rattle.driver_core.specs.declared.device.Stage.TheVariants.{Closed, Masking, Closing, Listed, Unmasking, Looking}
use Rattle.driver_core.specs.declared.device.Stage.TheVariants.{Armed, Deferring, Deferred}
use Rattle.driver_core.specs.declared.{todo.Refused.{Refused, TheVariants.{NotDue, TooMany}}, driver.Driver.Driver, todo.Todo.Todo}
use Rattle.driver_core.specs.declared.{limits.Limits.Limits}
use Rattle.driver_core.specs.declared.todo.What.{What, TheVariants.{Mask, Unmask, Look, Timer, Fetch, Ended, Sleep}}
use Rattle.driver_core.proofs.TurnFacts.{occurs-itself, occurs-other}

abbrev flag : Bool → ℕ
flag b = cond b 1 0

masks-lists : (s : Stage) → masks_for_poll s ≡ true → stage_is_listed (masked_at s) ≡ true
masks-lists (Masking stopping) h = refl
masks-lists (Listed stopping) h = absurd (cc h)
masks-lists Closed h = absurd (cc h)
masks-lists Closing h = absurd (cc h)
masks-lists Unmasking h = absurd (cc h)
masks-lists Looking h = absurd (cc h)
masks-lists Armed h = absurd (cc h)
masks-lists Deferring h = absurd (cc h)
masks-lists Deferred h = absurd (cc h)

listed-idle : (s : Stage) → stage_is_listed s ≡ true → chore_at s ≡ None
listed-idle (Listed stopping) h = refl
listed-idle Closed h = absurd (cc h)
listed-idle (Masking stopping) h = absurd (cc h)
listed-idle Closing h = absurd (cc h)
listed-idle Unmasking h = absurd (cc h)
listed-idle Looking h = absurd (cc h)
listed-idle Armed h = absurd (cc h)
listed-idle Deferring h = absurd (cc h)
listed-idle Deferred h = absurd (cc h)

listed-works : (s : Stage) → IsAtRest s → stage_is_listed s ≡ true → ⊥
listed-works (Listed stopping) rests h = rests
listed-works Closed rests h = cc h
listed-works (Masking stopping) rests h = rests
listed-works Closing rests h = rests
listed-works Unmasking rests h = rests
listed-works Looking rests h = rests
listed-works Armed rests h = cc h
listed-works Deferring rests h = rests
listed-works Deferred rests h = cc h

no-action : (o : Option Chore) (c : Chore) → o ≡ None → o ≡ Some c → ⊥
no-action o c none some = let both : None ≡ Some c = sym none ∙ some in cc both

fetch-only : (after : Driver) (id : ℕ) (what : What) → IsDue after what
    → ((k : ℕ) → k < length (driver_devices after) → chore_at (stage_of after k) ≡ None)
    → ((k : ℕ) → stage_is_listed (stage_of after k) ≡ true → k ≡ id)
    → id < length (driver_devices after) → stage_is_listed (stage_of after id) ≡ true
    → ((report : RunReport) → what ≡ Ended report → ⊥) → what ≡ Fetch id (weight_of after id)
fetch-only after id (Mask k) due none only lt listed never =
    absurd (no-action (chore_at (stage_of after k)) chore.Mask (none k due.0) due.1)
fetch-only after id (Unmask k) due none only lt listed never =
    absurd (no-action (chore_at (stage_of after k)) chore.Unmask (none k due.0) due.1)
fetch-only after id (Look k) due none only lt listed never =
    absurd (no-action (chore_at (stage_of after k)) chore.Look (none k due.0) due.1)
fetch-only after id (Timer k time) due none only lt listed never =
    absurd (no-action (chore_at (stage_of after k)) chore.Timer (none k due.0) due.1)
fetch-only after id (Fetch k most) due none only lt listed never =
    let e : k ≡ id = only k due.2 in
    subst (λ (x : ℕ). Fetch k most ≡ Fetch x (weight_of after x)) e (ap (λ (m : ℕ). Fetch k m) due.3)
fetch-only after id (Ended report) due none only lt listed never = absurd (never report refl)
fetch-only after id (Sleep report) due none only lt listed never =
    absurd (listed-works (stage_of after id)
    (All-get_or (λ (d : DriverDevice). IsAtRest d.stage) (driver_devices after) id (in_stage Closed false) lt due.0.0) listed)

unspent : (budget window : ℕ) → 1 ≤ budget → 1 ≤ window → is_spent budget window [] ≡ false
unspent budget window b w = grind arith

unsqueezed : (limits : Limits) (start after : List ℕ) (id : ℕ) (report : RunReport)
    → IsPlainRun limits.budget limits.window start [] after report → start ≡ id ∷ [] → ⊥
unsqueezed limits start after id report run is =
    let free : report.squeezed ≡ false = run.squeezed ∙ unspent limits.budget limits.window limits.budgets.0 limits.windows.0 in
    let over : run.rest ≡ [] = (run.ends free).0 in
    let first : run.first ≡ id ∷ [] = (own-arrivals limits.budget limits.window start after [] report run).0 ∙ is in
    let front : run.rest ≡ run.first ++ concat run.further = run.front in
    let both : [] ≡ id ∷ concat run.further = sym over ∙ front ∙ ap (λ (xs : List ℕ). xs ++ concat run.further) first in
    cc both

pub joined : (before masked after : Driver) (id : ℕ) (todo : Todo) → JoinsMask (Some id) before masked → AsksNext masked todo after
    → todo.what ≡ Fetch id (weight_of before id)
joined before masked after id todo j asks =
    let may = j.0 in
    let only = may.only in
    let does = j.1 in
    let to : DriverDevice = did chore.Mask false (device_of before id) in
    let count : length (driver_devices masked) ≡ length (driver_devices before) =
    ap (λ (ds : List DriverDevice). length ds) does.devices ∙ length-set (driver_devices before) id to in
    let same-count : length (driver_devices after) ≡ length (driver_devices masked) =
    ap (λ (ds : List DriverDevice). length ds) asks.devices in
    let at-id : device_of masked id ≡ to =
    ap (λ (ds : List DriverDevice). device_at ds id) does.devices
    ∙ get_or-set_same (driver_devices before) id to (in_stage Closed false) only.range in
    let on-list : stage_is_listed to.stage ≡ true = masks-lists (stage_of before id) only.mask in
    let listed : stage_is_listed (stage_of masked id) ≡ true = ap (λ (d : DriverDevice). stage_is_listed d.stage) at-id ∙ on-list in
    let none : (k : ℕ) → k < length (driver_devices before) → chore_at (stage_of masked k) ≡ None =
    λ k lt. elim (cases_eq k id) [
      | inl e ↦ rw e (listed-idle (stage_of masked id) listed)
      | inr ne ↦
          ap (λ (ds : List DriverDevice). chore_at (device_at ds k).stage) does.devices
          ∙ ap (λ (d : DriverDevice). chore_at d.stage) (get_or-set_other (driver_devices before) id k to (in_stage Closed false) ne)
          ∙ only.others k lt ne
    ] in
    let off : masked.runs ≡ false = does.same.runs ∙ may.rests in
    let list : masked.list ≡ id ∷ [] =
    does.list ∙ ap (λ (xs : List ℕ). xs ++ cond (stage_is_listed to.stage) (id ∷ []) []) may.list
    ∙ ap (λ (b : Bool). cond b (id ∷ []) []) on-list in
    let alone : (k : ℕ) → stage_is_listed (stage_of masked k) ≡ true → k ≡ id =
    λ k on. elim (cases_eq k id) [
      | inl e ↦ e
      | inr ne ↦
          let nothing = masked.idle off in
          let one : flag (listed_at (driver_devices masked) k) ≡ flag true = ap (λ (b : Bool). flag b) on in
          absurd (omega (
            arith,
            masked.queue.each k,
            one,
            ap (occurs k) list,
            occurs-other k id ne,
            ap (occurs k) nothing.own,
            ap (occurs k) nothing.repoll,
            ap (λ (o : Option ℕ). occurs k (asked_for o)) nothing.asked,
          ))
    ] in
    let at-after : (k : ℕ) → stage_of after k ≡ stage_of masked k =
    λ k. ap (λ (ds : List DriverDevice). (device_at ds k).stage) asks.devices in
    let what : todo.what ≡ Fetch id (weight_of after id) = fetch-only after id todo.what asks.due
    (λ k lt. ap (λ (s : Stage). chore_at s) (at-after k) ∙ none k (omega (arith, lt, same-count, count)))
    (λ k on. alone k (sym (ap (λ (s : Stage). stage_is_listed s) (at-after k)) ∙ on))
    (omega (arith, only.range, same-count, count))
    (ap (λ (s : Stage). stage_is_listed s) (at-after id) ∙ listed)
    (λ report is. unsqueezed masked.limits masked.list (list_of after) id report (asks.whole report is off) list) in
    let same : after.pacings ≡ before.pacings = asks.pacings ∙ does.same.pacings in
    what ∙ ap (λ v. Fetch id (get_or v.items id no_pacing).settings.weight) same

pub masked-first-is-fetched : MaskedFirstIsFetched
masked-first-is-fetched before after id todo h = joined before h.masked after id todo h.joins h.asks

-- ---- a turn is a sequence of calls

interrupt-calls : (ids : List ℕ) (before between after : Driver) (polled : List (List ℕ)) → InterruptsIn ids before between
    → CallsPoll between polled after → (all : List (List ℕ)) × CallsPoll before all after
interrupt-calls [] before between after polled same calls = (polled, subst (λ (d : Driver). CallsPoll d polled after) same calls)
interrupt-calls (id ∷ ids) before between after polled (next, lt, puts, more) calls =
    let rest = interrupt-calls ids next between after polled more calls in
    ([] ∷ rest.0, (next, inr (inr (inl (id, after_interrupt (device_of before id), puts, refl))), rest.1))

report-calls : (number packets : ℕ) (rearm : Rearm) (before between after : Driver) (reported : Result ⊤ Refused) (polled : List (List ℕ))
    → IsDone number packets rearm before reported between → CallsPoll between polled after
    → (all : List (List ℕ)) × CallsPoll before all after
report-calls number packets rearm before between after (Ok done) polled h calls =
    (asked_for (polled_device before) ∷ polled, (between, inl (packets, rearm, h.ok, refl), calls))
report-calls number packets rearm before between after (Err why) polled h calls =
    (polled, subst (λ (d : Driver). CallsPoll d polled after) h.err calls)

asks-calls : (before after : Driver) (todo : Todo) → AsksNext before todo after → CallsPoll before ([] ∷ []) after
asks-calls before after todo asks = (after, inr (inl (todo, asks, refl)), refl)

joined-calls : (before after : Driver) (mask : Option ℕ) (todo : Todo) → AsksJoined before mask todo after
    → (all : List (List ℕ)) × CallsPoll before all after
joined-calls before after None todo h =
    ([] ∷ [], subst (λ (d : Driver). CallsPoll d ([] ∷ []) after) h.joins.0 (asks-calls h.masked after todo h.asks))
joined-calls before after (Some id) todo h =
    ([] ∷ [] ∷ [], (h.masked, inr (inr (inr (inr (id, chore.Mask, h.joins.1, refl)))), asks-calls h.masked after todo h.asks))

no-said : (o : Option (ℕ × Chore)) → (o ≡ None) ⊎ (o ≢ None)
no-said None = inl refl
no-said (Some said) = inr (λ bad. cc bad)

no-polled : (o : Option ℕ) → (o ≡ None) ⊎ (o ≢ None)
no-polled None = inl refl
no-polled (Some id) = inr (λ bad. cc bad)

next-calls : (before after : Driver) (mask : Option ℕ) (todo : Todo) → NextJoined before mask todo after
    → (all : List (List ℕ)) × CallsPoll before all after
next-calls before after mask todo h =
    let busy : ¬ AwaitsNothing before → (all : List (List ℕ)) × CallsPoll before all after =
    λ busy. ([] ∷ [], asks-calls before after todo (h.busy busy).0) in
    elim (no-said (said_of before)) [
      | inl none ↦ elim (no-polled (polled_device before)) [
        | inl rests ↦ joined-calls before after mask todo (h.free (none, rests))
        | inr polls ↦ busy (λ free. polls free.1)
      ]
      | inr some ↦ busy (λ free. some free.0)
    ]

turn-calls : (number packets : ℕ) (rearm : Rearm) (before between interrupted after : Driver) (reported : Result ⊤ Refused)
    (mask : Option ℕ) (todo : Todo) (ids : List ℕ) → IsDone number packets rearm before reported between
    → InterruptsIn ids between interrupted → (rest : (all : List (List ℕ)) × CallsPoll interrupted all after)
    → (all : List (List ℕ)) × CallsPoll before all after
turn-calls number packets rearm before between interrupted after reported mask todo ids h reports rest =
    let calls = interrupt-calls ids between interrupted after rest.0 reports rest.1 in
    report-calls number packets rearm before between after reported calls.0 h calls.1

rest-calls : (interrupted after : Driver) (reported : Result ⊤ Refused) (mask : Option ℕ) (todo : Todo)
    → (reported ≢ Err TooMany → NextJoined interrupted mask todo after)
    → (reported ≡ Err TooMany → AsksNext interrupted todo after × (mask ≡ None)) → (all : List (List ℕ)) × CallsPoll interrupted all after
rest-calls interrupted after (Ok done) mask todo asks refused = next-calls interrupted after mask todo (asks (λ bad. cc bad))
rest-calls interrupted after (Err NotDue) mask todo asks refused = next-calls interrupted after mask todo (asks (λ bad. cc bad))
rest-calls interrupted after (Err TooMany) mask todo asks refused = ([] ∷ [], asks-calls interrupted after todo (refused refl).0)

pub turns-are-calls : TurnsAreCalls
turns-are-calls bits number packets rearm before after reported mask todo h =
    turn-calls number packets rearm before h.between h.interrupted after reported mask todo h.interrupts.ids h.reports h.interrupts.reports
    (rest-calls h.interrupted after reported mask todo h.asks h.refused)
