-- The status of a report, and what it means.
use Rattle.std.specs.Prelude.{⊤, IsSome, if◌then◌else◌, ◌==◌, ◌&&◌, ◌||◌, not}
use Rattle.std.proofs.Common.{◌≡◌, ◌≢◌, ◌∙◌, inl, inr, ℕ, Bool, true, false, is_some, Option, Result, Ok, Err, refl}
use Rattle.std.proofs.Common.{sym, ap, subst, arith}
use Rattle.std.proofs.lemmas.Bool.{Decides.{eqb_tells}, eq-eqb}
use Rattle.driver_core.specs.Driver.{AsksNext, AwaitsNothing, IsDone, IsReport, IsStep, IsTurn, Reports, awaits_another, polled_device}
use Rattle.driver_core.specs.Driver.{said_number_of, said_of}
use Rattle.driver_core.specs.declared.{device.Chore.Chore, driver.Driver.Driver, todo.Todo.Todo, todo.What.What}
use Rattle.driver_core.specs.declared.todo.Refused.{Refused, TheVariants.{NotDue, TooMany}}
use Rattle.c_handles.specs.Drivers.{IsDriverStep, IsTodoReport, Says, TakesTurn, failed_in, rearm_in, report_status, step_status}
use Rattle.c_handles.specs.Drivers.{todo_settled}
use Rattle.c_handles.specs.Drivers.{todo_in}
use Rattle.c_handles.specs.declared.drive.FqTodo.{FqTodo}
use Rattle.c_handles.specs.Status.{OK, NOT_DUE, BAD_WORK}

-- no report is due under number 0
not_zero : (number : ℕ) (d : Driver) → number ≡ 0 → number ≡ d.number → ⊥
not_zero number d zero is = omega (arith, zero, is, d.numbers)

report_none : (number packets rearm : ℕ) (d e : Driver) → number ≡ 0 → e ≡ d → IsTodoReport number packets rearm d OK e
report_none number packets rearm d e zero same = record {
  none = λ _. (refl, same);
  due = λ other. absurd (other zero);
  reports = λ other. absurd (other zero);
  many = λ other. absurd (other zero);
  status = inl refl;
  kept = λ _. same;
}

report_ok : (number packets rearm : ℕ) (d e : Driver) → IsReport number packets d → Reports packets (rearm_in rearm) d e → AwaitsNothing e
    → IsTodoReport number packets rearm d OK e
report_ok number packets rearm d e report reports free = record {
  none = λ zero. absurd (not_zero number d zero report.0);
  due = λ _. (λ _. report, λ _. refl);
  reports = λ _ _. (reports, free);
  many = λ _ bad. absurd (bad refl);
  status = inl refl;
  kept = λ bad. absurd (bad refl);
}

report_late : (number packets rearm : ℕ) (d e : Driver) → number ≢ 0 → ¬ IsReport number packets d
    → ¬ ((number ≡ said_number_of d) × IsSome (polled_device d)) → e ≡ d → IsTodoReport number packets rearm d NOT_DUE e
report_late number packets rearm d e some late few same = record {
  none = λ zero. absurd (some zero);
  due = λ _. (λ bad. absurd (omega (arith, bad)), λ report. absurd (late report));
  reports = λ _ bad. absurd (omega (arith, bad));
  many = λ _ _. (λ bad. absurd (omega (arith, bad)), λ many. absurd (few many));
  status = inr (inl refl);
  kept = λ _. same;
}

report_many : (number packets rearm : ℕ) (d e : Driver) → ¬ IsReport number packets d
    → (number ≡ said_number_of d) × IsSome (polled_device d) → e ≡ d → IsTodoReport number packets rearm d BAD_WORK e
report_many number packets rearm d e late many same = record {
  none = λ zero. absurd (not_zero number d zero many.0);
  due = λ _. (λ bad. absurd (omega (arith, bad)), λ report. absurd (late report));
  reports = λ _ bad. absurd (omega (arith, bad));
  many = λ _ _. (λ _. many, λ _. refl);
  status = inr (inr refl);
  kept = λ _. same;
}

late_report : (number packets rearm : ℕ) (d e : Driver) → ¬ IsReport number packets d
    → ¬ ((number ≡ said_number_of d) × IsSome (polled_device d)) → e ≡ d
    → IsTodoReport number packets rearm d (report_status number (Err NotDue)) e
late_report number packets rearm d e late few same =
    let P : Bool → Type 0 = λ b. IsTodoReport number packets rearm d (if b then OK else NOT_DUE) e in
    elim (eqb_tells number 0) [
      | inl is ↦ subst P (sym is.0) (report_none number packets rearm d e is.1 same)
      | inr is ↦ subst P (sym is.0) (report_late number packets rearm d e is.1 late few same)
    ]

no_report : (number packets rearm : ℕ) (d e : Driver) (why : Refused) → IsDone number packets (rearm_in rearm) d (Err why) e
    → ¬ IsReport number packets d
no_report number packets rearm d e why h report = let bad : false ≡ true = h.when.1 report in cc bad

not_due : NotDue ≡ TooMany → ⊥
not_due bad = cc bad

pub todo_report : (number packets rearm : ℕ) (d e : Driver) (reported : Result ⊤ Refused)
    → IsDone number packets (rearm_in rearm) d reported e
    → IsTodoReport number packets rearm d (report_status number reported) e
todo_report number packets rearm d e (Ok done) h = report_ok number packets rearm d e (h.when.0 refl) h.ok h.free
todo_report number packets rearm d e (Err TooMany) h =
    report_many number packets rearm d e (no_report number packets rearm d e TooMany h) (h.many.0 refl) h.err
todo_report number packets rearm d e (Err NotDue) h =
    late_report number packets rearm d e (no_report number packets rearm d e NotDue h) (λ many. not_due (h.many.1 many)) h.err

-- ---- a step

-- a report of too many packets changes nothing, and the poll is asked for again
refused_keeps : (number packets rearm : ℕ) (d e : Driver) (todo : Todo) → IsStep number packets (rearm_in rearm) d (Err TooMany) todo e
    → e ≡ d
refused_keeps number packets rearm d e todo h =
    let back : h.between ≡ d = h.reports.err in
    let polled : is_some (polled_device d) ≡ true = (h.reports.many.0 refl).1 in
    let busy : ¬ AwaitsNothing h.between =
    λ free.
    let none : is_some (polled_device d) ≡ false =
    ap (λ (o : Option ℕ). is_some o) (sym (ap (λ (x : Driver). polled_device x) back) ∙ free.1) in
    let both : true ≡ false = sym polled ∙ none in
    cc both in
    (h.asks.again busy).0 ∙ back

-- ---- while another action waits for its report

and_false : (b : Bool) → (b && false) ≡ false
and_false true = refl
and_false false = refl

other_number : (number : ℕ) (d : Driver) → awaits_another number d ≡ true → number ≢ said_number_of d
other_number number d is same =
    let no : awaits_another number d ≡ false =
    ap (λ (b : Bool). not b && (is_some (polled_device d) || is_some (said_of d))) (eq-eqb number (said_number_of d) same) in
    let both : true ≡ false = sym is ∙ no in
    cc both

other_busy : (number : ℕ) (d : Driver) → awaits_another number d ≡ true → ¬ AwaitsNothing d
other_busy number d is free =
    let none : (is_some (polled_device d) || is_some (said_of d)) ≡ false =
    ap (λ (o : Option ℕ). is_some o || is_some (said_of d)) free.1
    ∙ ap (λ (o : Option (ℕ × Chore)). is_some o) free.0 in
    let no : awaits_another number d ≡ false =
    ap (λ (b : Bool). not (number == said_number_of d) && b) none ∙ and_false (not (number == said_number_of d)) in
    let both : true ≡ false = sym is ∙ no in
    cc both

-- then a step changes nothing
other_keeps : (number packets rearm : ℕ) (d e : Driver) (reported : Result ⊤ Refused) (todo : Todo)
    → awaits_another number d ≡ true → IsStep number packets (rearm_in rearm) d reported todo e → e ≡ d
other_keeps number packets rearm d e (Ok done) todo is h = absurd (other_number number d is (h.reports.when.0 refl).0)
other_keeps number packets rearm d e (Err why) todo is h =
    let back : h.between ≡ d = h.reports.err in
    let busy : ¬ AwaitsNothing h.between = subst (λ (x : Driver). ¬ AwaitsNothing x) (sym back) (other_busy number d is) in
    (h.asks.again busy).0 ∙ back

-- ---- what is written

-- the report of a number that isn't due doesn't have too many packets
not_many : (number : ℕ) → (report_status number (Err NotDue) == BAD_WORK) ≡ false
not_many number =
    let P : Bool → Type 0 = λ b. ((if b then OK else NOT_DUE) == BAD_WORK) ≡ false in
    elim (eqb_tells number 0) [ inl is ↦ subst P (sym is.0) refl | inr is ↦ subst P (sym is.0) refl ]

good_status : (said : ℕ) → (said == BAD_WORK) ≡ false → step_status false said ≡ OK
good_status said h = ap (λ (b : Bool). if b then BAD_WORK else OK) h

good_settled : (said : ℕ) (mask : Bool) (placed : FqTodo) (number : ℕ) (what : What) → (said == BAD_WORK) ≡ false
    → placed ≡ todo_in OK false number what → todo_settled false said mask placed ≡ todo_in said mask number what
good_settled said mask placed number what h is =
    ap (λ (b : Bool). if b then failed_in BAD_WORK else record placed { status = said; mask = mask }) h
    ∙ ap (λ (t : FqTodo). record t { status = said; mask = mask }) is

pub says : (status : ℕ) (mask : Bool) (after : FqTodo) (b e : Driver) (todo : Todo) → AsksNext b todo e
    → after ≡ todo_in status mask todo.number todo.what → Says status mask b after e
says status mask after b e todo next is = rw is (record {
  what = todo.what;
  said = refl;
  due = next.due;
  number = next.number;
  again = next.again;
  devices = next.devices;
  counts = next.counts;
  pacings = next.pacings;
  stops = next.stops;
})

-- the action that is due was written, with whether it masks its card first
pub next_made : (mask : Bool) (placed after : FqTodo) (d e : Driver) (todo : Todo) → AsksNext d todo e
    → placed ≡ todo_in OK false todo.number todo.what → after ≡ todo_settled false OK mask placed → Says OK mask d after e
next_made mask placed after d e todo asks takes is =
    says OK mask after d e todo asks (is ∙ good_settled OK mask placed todo.number todo.what refl takes)

-- ---- a step

step_good : (before placed after : FqTodo) (d e : Driver) (reported : Result ⊤ Refused) (todo : Todo)
    → false ≡ awaits_another before.number d → IsStep before.number before.packets (rearm_in before.rearm) d reported todo e
    → (report_status before.number reported == BAD_WORK) ≡ false → placed ≡ todo_in OK false todo.number todo.what
    → after ≡ todo_settled false (report_status before.number reported) false placed
    → IsDriverStep before after d (step_status false (report_status before.number reported)) e
step_good before placed after d e reported todo other h good takes is =
    let said : ℕ = report_status before.number reported in
    record {
      said = said;
      between = h.between;
      reports = todo_report before.number before.packets before.rearm d h.between reported h.reports;
      status = ap (λ (b : Bool). step_status b said) other;
      says = λ _. says said false after h.between e todo h.asks (is ∙ good_settled said false placed todo.number todo.what good takes);
      failed = λ bad. absurd (bad (good_status said good));
    }

-- the next action was written, unless a fetch took too many packets or another action waits for its report
pub step_made : (other : Bool) (before placed after : FqTodo) (d e : Driver) (reported : Result ⊤ Refused) (todo : Todo)
    → other ≡ awaits_another before.number d → IsStep before.number before.packets (rearm_in before.rearm) d reported todo e
    → (reported ≢ Err TooMany → placed ≡ todo_in OK false todo.number todo.what)
    → after ≡ todo_settled other (report_status before.number reported) false placed
    → IsDriverStep before after d (step_status other (report_status before.number reported)) e
step_made true before placed after d e reported todo other h takes is = record {
  said = report_status before.number reported;
  between = h.between;
  reports = todo_report before.number before.packets before.rearm d h.between reported h.reports;
  status = ap (λ (b : Bool). step_status b (report_status before.number reported)) other;
  says = λ bad. absurd (omega (arith, bad));
  failed = λ _. (is, other_keeps before.number before.packets before.rearm d e reported todo (sym other) h);
}
step_made false before placed after d e (Ok done) todo other h takes is =
    step_good before placed after d e (Ok done) todo other h refl (takes (λ bad. cc bad)) is
step_made false before placed after d e (Err NotDue) todo other h takes is =
    step_good before placed after d e (Err NotDue) todo other h (not_many before.number) (takes (λ bad. cc bad)) is
step_made false before placed after d e (Err TooMany) todo other h takes is = record {
  said = BAD_WORK;
  between = h.between;
  reports = todo_report before.number before.packets before.rearm d h.between (Err TooMany) h.reports;
  status = ap (λ (b : Bool). step_status b BAD_WORK) other;
  says = λ bad. absurd (omega (arith, bad));
  failed = λ _. (is, refused_keeps before.number before.packets before.rearm d e todo h);
}

-- ---- a turn

turn_good : (bits : ℕ) (before placed after : FqTodo) (d e : Driver) (reported : Result ⊤ Refused) (mask : Option ℕ) (todo : Todo)
    → false ≡ awaits_another before.number d
    → IsTurn bits before.number before.packets (rearm_in before.rearm) d reported mask todo e
    → (report_status before.number reported == BAD_WORK) ≡ false → placed ≡ todo_in OK false todo.number todo.what
    → after ≡ todo_settled false (report_status before.number reported) (is_some mask) placed
    → TakesTurn bits before after d (step_status false (report_status before.number reported)) e
turn_good bits before placed after d e reported mask todo other h good takes is =
    let said : ℕ = report_status before.number reported in
    record {
      reported = reported;
      mask = mask;
      todo = todo;
      turns = h;
      status = ap (λ (b : Bool). step_status b said) other;
      says = λ _. is ∙ good_settled said (is_some mask) placed todo.number todo.what good takes;
      failed = λ bad. absurd (bad (good_status said good));
    }

-- the same of a turn
pub turn_made : (bits : ℕ) (other : Bool) (before placed after : FqTodo) (d e : Driver) (reported : Result ⊤ Refused) (mask : Option ℕ)
    (todo : Todo) → other ≡ awaits_another before.number d
    → IsTurn bits before.number before.packets (rearm_in before.rearm) d reported mask todo e
    → (reported ≢ Err TooMany → placed ≡ todo_in OK false todo.number todo.what)
    → after ≡ todo_settled other (report_status before.number reported) (is_some mask) placed
    → TakesTurn bits before after d (step_status other (report_status before.number reported)) e
turn_made bits true before placed after d e reported mask todo other h takes is = record {
  reported = reported;
  mask = mask;
  todo = todo;
  turns = h;
  status = ap (λ (b : Bool). step_status b (report_status before.number reported)) other;
  says = λ bad. absurd (omega (arith, bad));
  failed = λ _. is;
}
turn_made bits false before placed after d e (Ok done) mask todo other h takes is =
    turn_good bits before placed after d e (Ok done) mask todo other h refl (takes (λ bad. cc bad)) is
turn_made bits false before placed after d e (Err NotDue) mask todo other h takes is =
    turn_good bits before placed after d e (Err NotDue) mask todo other h (not_many before.number) (takes (λ bad. cc bad)) is
turn_made bits false before placed after d e (Err TooMany) mask todo other h takes is = record {
  reported = Err TooMany;
  mask = mask;
  todo = todo;
  turns = h;
  status = ap (λ (b : Bool). step_status b BAD_WORK) other;
  says = λ bad. absurd (omega (arith, bad));
  failed = λ _. is;
}
