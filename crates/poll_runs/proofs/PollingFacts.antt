-- The progress of a thread's polling of one instance.
use Rattle.std.proofs.Common.{◌≡◌, ◌≢◌, ◌∙◌, ℕ, zero, suc, ◌+◌, ◌<◌, ◌≤◌, Bool, true, false, List, [], ◌∷◌, ◌++◌, length}
use Rattle.std.proofs.{Common.{length-append, ap, refl, sym, arith}, lemmas.{Bool.{eq-eqb, ne_eqb}, List.Sums.sum_by-append}}
use Rattle.{std.specs.{Prelude.{◌==◌, sum_by}, List.AllByRecursion}, napi_model.specs.declared.event.{Call.Call, Operation.Operation}}
use Rattle.poll_runs.specs.Plan.{Action, Does, Plan, ◌>>=◌}
use Rattle.poll_runs.specs.Polling.{Given, ThreadPolls, followed, poll_plan, thread_poll_plan, polls_on, takes}
use Rattle.poll_runs.specs.Thread.{ThreadContinues, IsThreadPolling, is_for_thread, last_next}
use Rattle.poll_runs.specs.declared.bench.Next.TheVariants.{Absent, Repoll}
use Rattle.poll_runs.{specs.declared.bench.{Once.Once, ThreadReport.ThreadReport}, proofs.PlanFacts.{Leads, leads-from, leads-on, leads-to}}
use Rattle.napi_model.specs.declared.state.Kind.TheVariants as kind

pub last-snoc : (polls : List Once) (once : Once) → last_next (polls ++ once ∷ []) ≡ once.next
last-snoc (first ∷ second ∷ more) once = last-snoc (second ∷ more) once
last-snoc polls once = refl

-- the report after one more poll
abbrev pub told : ThreadReport → Once → ThreadReport
told report once = record { polls = report.polls + 1; work = report.work + once.work; next = once.next }

-- the thread may continue after these polls
abbrev GoesOn : List Once → Type 0
GoesOn [] = Unit {0}
GoesOn (once ∷ more) = is_for_thread (last_next (once ∷ more)) ≡ true

continues-more : (polls : List Once) (once : Once) → ThreadContinues polls → GoesOn polls → ThreadContinues (polls ++ once ∷ [])
continues-more [] once c on = tt
continues-more (first ∷ []) once c on = (on, tt)
continues-more (first ∷ second ∷ more) once c on = (c.0, continues-more (second ∷ more) once c.1 on)

goes-on : (polls : List Once) (once : Once) → is_for_thread once.next ≡ true → GoesOn (polls ++ once ∷ [])
goes-on [] once on = on
goes-on (first ∷ more) once on = ap is_for_thread (last-snoc (first ∷ more) once) ∙ on

abbrev Lawful : ℕ → Once → Type 0
Lawful weight once = (once.work ≤ weight) × (once.next ≢ Absent)

lawful-more : (weight : ℕ) (polls : List Once) (once : Once) → AllByRecursion (Lawful weight) polls → Lawful weight once
    → AllByRecursion (Lawful weight) (polls ++ once ∷ [])
lawful-more weight [] once all is = (is, tt)
lawful-more weight (first ∷ polls) once all is = (all.0, lawful-more weight polls once all.1 is)

-- the polls made so far, how many are left, and whether the thread still owns the instance
pub record Polls (weight most : ℕ) (held : Bool) (polls : List Once) (left : ℕ) (report : ThreadReport) : Type 0 where
  pub room : left + length polls ≡ most
  pub each : AllByRecursion (Lawful weight) polls
  pub continues : ThreadContinues polls
  pub on : held ≡ true → GoesOn polls
  pub ends : held ≡ false → 1 ≤ left → last_next polls ≢ Repoll
  pub count : report.polls ≡ length polls
  pub sum : report.work ≡ sum_by (λ once. once.work) polls
  pub last : report.next ≡ last_next polls

polls-none : (weight most : ℕ) (held : Bool) → Polls weight most held [] most (record { polls = 0; work = 0; next = Absent })
polls-none weight most held = record {
  room = omega arith;
  each = tt;
  continues = tt;
  on = λ _. tt;
  ends = λ _ _ e. cc e;
  count = refl;
  sum = refl;
  last = refl;
}

polls-more : (weight most left : ℕ) (held : Bool) (polls : List Once) (report : ThreadReport) (once : Once)
    → Polls weight most true polls (suc left) report → Lawful weight once → (held ≡ true → is_for_thread once.next ≡ true)
    → (held ≡ false → 1 ≤ left → once.next ≢ Repoll) → Polls weight most held (polls ++ once ∷ []) left (told report once)
polls-more weight most left held polls report once p is kept gone = record {
  room = rw (length-append polls (once ∷ [])) (omega (arith, p.room));
  each = lawful-more weight polls once p.each is;
  continues = continues-more polls once p.continues (p.on refl);
  on = λ h. goes-on polls once (kept h);
  ends = λ h some. rw (last-snoc polls once) (gone h some);
  count = rw (length-append polls (once ∷ [])) (omega (arith, p.count));
  sum = sym (sum_by-append (λ (o : Once). o.work) polls (once ∷ []) ∙ omega (arith, p.sum));
  last = sym (last-snoc polls once);
}

-- a poll is the last one exactly if none is left after it
is-last : (n most left : ℕ) → suc left + n ≡ most → ((n + 1) == most) ≡ (left == 0)
is-last n most zero e = eq-eqb (n + 1) most (omega (arith, e))
is-last n most (suc left) e =
    ne_eqb (n + 1) most (λ (same : n + 1 ≡ most). absurd (omega (arith, e, same)))
    ∙ sym (ne_eqb (suc left) 0 (λ (z : suc left ≡ 0). cc z))

module _ {I P : Type 0} (tries : Call → Operation → List Operation → Type 0) (did : I → List (Action P) → I → Type 0) where
  -- the progress of a thread's polling: the polls made, the packets of the last one, and that the rest of the plan completes
  -- the whole
  pub record Going (thread : Bool) (weight most : ℕ) (start : I) (held : Bool) (now : I) (given : List P) (report : ThreadReport)
      : Type 0 where
    pub polls : List Once
    pub left : ℕ
    pub made : Polls weight most held polls left report
    pub leads : Leads tries did (thread_poll_plan thread weight most) start
        (polls_on thread weight left held (record { polls = polls; packets = given })) now

module _ {I P : Type 0} (tries : Call → Operation → List Operation → Type 0) (did : I → List (Action P) → I → Type 0)
    (nothing : (it : I) → did it [] it)
    (joins : (a b c : I) (first second : List (Action P)) → did a first b → did b second c → did a (first ++ second) c) where
  pub going-start : (thread : Bool) (weight most : ℕ) (start : I) (held : Bool) (now : I) → 1 ≤ most
      → Does tries did (takes kind.Thread) start held now
      → Going tries did thread weight most start held now [] (record { polls = 0; work = 0; next = Absent })
  going-start thread weight most start held now room d = record {
    polls = [];
    left = most;
    made = polls-none weight most held;
    leads =
        leads-on tries did nothing joins (thread_poll_plan thread weight most) start (takes kind.Thread)
        (λ h. polls_on thread weight most h (record { polls = []; packets = [] })) start now held
        (leads-from tries did (thread_poll_plan thread weight most) start) d;
  }

  -- the progress after one more poll and the step after it (a requeue, a take, or neither)
  pub going-poll : (thread : Bool) (weight most : ℕ) (start now polled' after : I) (given given' : List P) (report : ThreadReport)
      (once : Once) (held : Bool) → Going tries did thread weight most start true now given report → report.polls < most
      → Does tries did (poll_plan thread weight) now (record { once = once; packets = given' }) polled'
      → Does tries did (followed ((report.polls + 1) == most) once.next) polled' held after
      → Lawful weight once → (held ≡ true → is_for_thread once.next ≡ true)
      → (held ≡ false → ((report.polls + 1) == most) ≡ false → once.next ≢ Repoll)
      → Going tries did thread weight most start held after given' (told report once)
  unfolding polls_on
  going-poll thread weight most start now polled' after given given' report once held g some p f is kept gone =
      by g.left refl g.made g.leads
    where
      by : (left : ℕ) → g.left ≡ left → Polls weight most true g.polls left report
          → Leads tries did (thread_poll_plan thread weight most) start
          (polls_on thread weight left true (record { polls = g.polls; packets = given })) now
          → Going tries did thread weight most start held after given' (told report once)
      by zero e made leads = absurd (omega (arith, made.room, made.count, some))
      by (suc left) e made leads =
          let last = is-last report.polls most left (omega (arith, made.room, made.count)) in
          let on : Given P → Bool → Plan P (ThreadPolls P) =
          λ h b. polls_on thread weight left b (record { polls = g.polls ++ h.once ∷ []; packets = h.packets }) in
          let behind =
          leads-on tries did nothing joins (thread_poll_plan thread weight most) start (poll_plan thread weight)
          (λ h. followed (left == 0) h.once.next >>= on h) now polled' (record { once = once; packets = given' }) leads p in
          record {
            polls = g.polls ++ once ∷ [];
            left = left;
            made =
                polls-more weight most left held g.polls report once made is kept
                (λ h more. gone h (last ∙ ne_eqb left 0 (λ z. absurd (omega (arith, more, z)))));
            leads =
                leads-on tries did nothing joins (thread_poll_plan thread weight most) start (followed (left == 0) once.next)
                (on (record { once = once; packets = given' })) polled' after held behind (rw last at f);
          }

  -- the thread's polling ends
  pub going-ends : (thread : Bool) (weight most : ℕ) (start now : I) (given : List P) (report : ThreadReport)
      → Going tries did thread weight most start false now given report
      → (polls : List Once) × (given' : List P)
      × Does tries did (thread_poll_plan thread weight most) start (record { polls = polls; packets = given' }) now
      × (given' ≡ given) × IsThreadPolling weight most polls report
  unfolding polls_on
  going-ends thread weight most start now given report g = (
    g.polls,
    given,
    leads-to tries did nothing joins (thread_poll_plan thread weight most) start now (record { polls = g.polls; packets = given }) g.leads,
    refl,
    record {
      within = omega (arith, g.made.room);
      each = g.made.each;
      continues = g.made.continues;
      fewer = λ less. g.made.ends refl (omega (arith, g.made.room, less));
      count = g.made.count;
      sum = g.made.sum;
      last = g.made.last;
    },
  )
