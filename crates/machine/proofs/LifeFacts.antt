-- Laws: each processor of a machine has a life (a list of events), its events are determined, and they end.
use Rattle.std.proofs.{Common.{◌≡◌, ◌∙◌, ℕ, zero, suc, ◌-◌, ◌/◌, ◌%◌, ◌<◌, ◌≤◌, ◌^◌, Bool, true, false, Some, List, [], ◌∷◌, length}}
use Rattle.std.proofs.{Common.{length-set, replicate, refl, sym, ap, arith}, lemmas.Bool.{eq-eqb, eqb-false, eqb-true}}
use Rattle.std.{proofs.lemmas.{Grind.common_steps, Option.slice_get_within}, specs.{Prelude.{◌==◌, slice_get}}}
use Rattle.circular_buffer.proofs.Places.{slice_get-set_other, slice_get-set_same, slice_get-some}
use Rattle.machine_model.specs.{Machine.{PacketArrives, Finishes, Machine, opened_machine}, Processor.{Advances, ProcessorView}}
use Rattle.machine_model.specs.Processor.{processor_after, arrives, is_by, is_due, opened_processor, step, upcoming}
use Rattle.machine_model.proofs.{LeftFacts.{left, load, step-asked}, StepFacts.each-more}
use Rattle.machine_model.specs.declared.{processor.Upcoming.Upcoming, settings.MachineSettings.MachineSettings}
use Rattle.machine.proofs.{RisingFacts.{Rises, rises-of, same-ok}, WorkFacts.{Goes, goes-happens, goes-on}}
use Rattle.machine.specs.{Answer.TakesArrivals, Lives.{ArrivesAsOne, EachLives, Ended, EveryRunEnds, InTurn, Lived, MachineEvent}}
use Rattle.machine.specs.Lives.{RunsAsOne, Took, behind, next, own_packets, packet, packets_in}
use Rattle.machine.specs.{Arrivals.arrivals_of, Report.machine_text, Reports.{HasOneReport, ReportsLives, arrived_packets}}
use Rattle.machine.specs.declared.arrival.Arrival.{Arrival}
use Rattle.device_rows.specs.Trace.{records_of}

pub runs-as-one : RunsAsOne
runs-as-one = grind (arith, common_steps)

pub same-some : (p q : ProcessorView) → Some p ≡ Some q → p ≡ q
same-some p q e = cc e

pub arrives-as-one : ArrivesAsOne
arrives-as-one = grind (arith, common_steps)

-- ---- a processor

-- an event that is due by a time is due by a later time
by-later : (moment until : ℕ) (u : Upcoming) (p : ProcessorView) → moment ≤ until → is_by moment u p ≡ true → is_by until u p ≡ true
by-later moment until u p h1 h2 = grind (arith, common_steps)

turns-later : (s : MachineSettings) (moment until : ℕ) (events : List MachineEvent) → moment ≤ until → InTurn s moment events
    → InTurn s until events
unfolding InTurn
turns-later s moment until [] most turns = tt
turns-later s moment until (packet at n ∷ earlier) most turns = (omega (arith, most, turns.0), turns.1, turns.2)
turns-later s moment until (next ∷ earlier) most turns =
    (by-later moment until (upcoming (behind s earlier)) _ most turns.0, turns-later s moment until earlier most turns.1)

pub lived-later : (s : MachineSettings) (moment until : ℕ) (packets : List (ℕ × ℕ)) (p : ProcessorView) → moment ≤ until
    → Lived s moment packets p
    → Lived s until packets p
lived-later s moment until packets p h1 h2 = grind (arith, common_steps, turns-later)

lived-next : (s : MachineSettings) (moment : ℕ) (packets : List (ℕ × ℕ)) (p : ProcessorView) → Lived s moment packets p
    → is_due moment p ≡ true
    → Lived s moment packets (step p)
unfolding behind InTurn packets_in
lived-next s moment packets p l due =
    record { events = next ∷ l.events; behind = ap step l.behind; turns = (rw l.behind at due, l.turns); came = l.came }

-- the steps of a life up to a time are due by that time
lived-after : (s : MachineSettings) (moment : ℕ) (packets : List (ℕ × ℕ)) (p : ProcessorView) → Lived s moment packets p → (count : ℕ)
    → ((n : ℕ) → n < count → is_due moment (processor_after n p) ≡ true) → Lived s moment packets (processor_after count p)
unfolding processor_after
lived-after s moment packets p l zero each = l
lived-after s moment packets p l (suc count) each =
    lived-next s moment packets (processor_after count p)
    (lived-after s moment packets p l count (λ n below. each n (omega (arith, below))))
    (each count (omega arith))

pub lived-advances : (s : MachineSettings) (moment : ℕ) (packets : List (ℕ × ℕ)) (p q : ProcessorView) → Lived s moment packets p
    → Advances moment p q → Lived s moment packets q
lived-advances s moment packets p q l runs = rw runs.last (lived-after s moment packets p l runs.count runs.each)

lived-arrives : (s : MachineSettings) (moment n : ℕ) (packets : List (ℕ × ℕ)) (p : ProcessorView) → Lived s moment packets p
    → is_due moment p ≡ false
    → Lived s moment ((moment, n) ∷ packets) (arrives moment n p)
unfolding behind InTurn packets_in
lived-arrives s moment n packets p l none = record {
  events = packet moment n ∷ l.events;
  behind = ap (arrives moment n) l.behind;
  turns = (omega arith, rw l.behind at none, l.turns);
  came = ap (λ (ps : List (ℕ × ℕ)). (moment, n) ∷ ps) l.came;
}

-- ---- the machine

-- the machine has this many processors, and each has a life
pub record AllLived (s : MachineSettings) (until : ℕ) (packets : List (ℕ × ℕ)) (m : Machine) : Type 0 where
  pub count : length m ≡ s.processors
  pub each : (number : ℕ) (p : ProcessorView) → slice_get m number ≡ Some p → Lived s until (own_packets s.processors number packets) p

opened-each : (s : MachineSettings) (count number : ℕ) (p : ProcessorView)
    → slice_get (replicate count (opened_processor s)) number ≡ Some p
    → p ≡ opened_processor s
opened-each s zero number p is = cc is
opened-each s (suc count) zero p is = cc is
opened-each s (suc count) (suc number) p is = opened-each s count number p is

lived-opened : (s : MachineSettings) (until : ℕ) → AllLived s until [] (opened_machine s)
unfolding own_packets InTurn behind packets_in
lived-opened s until = grind (arith, common_steps, opened-each)

own-here : (count size number moment device : ℕ) (packets : List (ℕ × ℕ)) → size ≡ count → (device - 1) % size ≡ number
    → own_packets count number ((moment, device) ∷ packets)
    ≡ (moment, (device - 1) / size) ∷ own_packets count ((device - 1) % size) packets
unfolding own_packets
own-here count size number moment device packets same is = rw (same, rw same at is, eq-eqb number number refl) refl

own-other : (count number moment device : ℕ) (packets : List (ℕ × ℕ)) → ((device - 1) % count == number) ≡ false
    → own_packets count number ((moment, device) ∷ packets) ≡ own_packets count number packets
unfolding own_packets
own-other count number moment device packets is = rw is refl

machine-arrives : (s : MachineSettings) (until moment device : ℕ) (packets : List (ℕ × ℕ)) (before m : Machine) → moment ≤ until
    → AllLived s moment packets before
    → PacketArrives moment device before m → AllLived s until ((moment, device) ∷ packets) m
machine-arrives s until moment device packets before m most l a = record {
  count = ap length a.others ∙ length-set before place a.new ∙ l.count;
  each = λ number p is. by number p is ((device - 1) % length before == number) refl;
}
  where
    place : ℕ
    place = (device - 1) % length before

    by : (number : ℕ) (p : ProcessorView) → slice_get m number ≡ Some p → (b : Bool) → (place == number) ≡ b
        → Lived s until (own_packets s.processors number ((moment, device) ∷ packets)) p
    by number p is true same =
        let here : place ≡ number = eqb-true place number same in
        let inside : place < length before = slice_get_within before place a.old a.own in
        let new : p ≡ a.new = same-some p a.new (sym is ∙ (rw (a.others, ← here) (slice_get-set_same before place a.new inside))) in
        let ready = lived-advances s moment _ a.old a.arrives.0 (l.each place a.old a.own) a.arrives.1 in
        let came = lived-arrives s moment ((device - 1) / length before) _ a.arrives.0 ready a.arrives.1.none in
        rw (new, a.arrives.2, own-here s.processors (length before) number moment device packets l.count here)
        (lived-later s moment until _ _ most came)
    by number p is false other =
        let apart : slice_get before number ≡ Some p =
        sym (slice_get-set_other before place number a.new (λ e. eqb-false place number other (sym e))) ∙ (rw (← a.others) is) in
        rw (own-other s.processors number moment device packets (rw (← l.count) other))
        (lived-later s moment until _ p most (l.each number p apart))

pub all-lived : (s : MachineSettings) (until : ℕ) (packets : List (ℕ × ℕ)) (m : Machine) → Took s until packets m
    → AllLived s until packets m
unfolding Took
all-lived s until [] m took = rw took (lived-opened s until)
all-lived s until ((moment, device) ∷ earlier) m took =
    machine-arrives s until moment device earlier took.1 m took.0 (all-lived s moment earlier took.1 took.2) took.3

pub each-lives : EachLives
each-lives s until packets m took =
    let l = all-lived s until packets m took in
    (l.each, λ done fits finishes number p is. by done fits finishes l number p is)
  where
    by : (after : Machine) → until < 2 ^ 64 → Finishes m after → AllLived s until packets m → (number : ℕ) (p : ProcessorView)
        → slice_get after number ≡ Some p → Ended s (own_packets s.processors number packets) p
    by done fits f l number p is =
        let some = slice_get-some m number (omega (arith, f.count, slice_get_within done number p is)) in
        let last = f.each number some.0 some.1 in
        let same : p ≡ last.0 = same-some p last.0 (sym is ∙ last.1) in
        let finish = last.2 in
        record {
          ready = finish.0;
          lived =
              lived-advances s (2 ^ 64 - 1) _ some.0 finish.0
              (lived-later s until (2 ^ 64 - 1) _ some.0 (omega (arith, fits)) (l.each number some.0 some.1)) finish.1;
          none = finish.1.none;
          finishes = same ∙ finish.2;
        }

-- ---- the machine of a report received packets whose times don't decrease

took-later : (s : MachineSettings) (moment until : ℕ) (packets : List (ℕ × ℕ)) (m : Machine) → moment ≤ until → Took s moment packets m
    → Took s until packets m
unfolding Took
took-later s moment until [] m most took = took
took-later s moment until ((at, device) ∷ earlier) m most took = (omega (arith, most, took.0), took.1, took.2, took.3)

took-one : (s : MachineSettings) (last : ℕ) (a : Arrival) (packets : List (ℕ × ℕ)) (before after : Machine) → Took s last packets before
    → last ≤ a.moment
    → PacketArrives a.moment a.device before after → Took s a.moment ((a.moment, a.device) ∷ packets) after
unfolding Took
took-one s last a packets before after took most taken = grind (arith, common_steps, took-later)

-- the packets that a machine received, after these arrivals
took-more : (s : MachineSettings) (last : ℕ) (packets : List (ℕ × ℕ)) (arrivals : List Arrival) (before after : Machine) → last < 2 ^ 62
    → Took s last packets before → Rises last arrivals
    → TakesArrivals arrivals before after → (until : ℕ) × (until < 2 ^ 64) × Took s until (arrived_packets packets arrivals) after
took-more s last packets [] before after small took rises taken = (last, omega (arith, small), rw taken took)
took-more s last packets (a ∷ arrivals) before after small took rises taken =
    grind (arith, common_steps, took-one, took-more s a.moment ((a.moment, a.device) ∷ packets) arrivals taken.0 after rises.1)

pub reports-lives : EachLives → ReportsLives
unfolding Took
reports-lives lives s bytes text r number p is =
    let rises = rises-of s (records_of bytes) r.arrivals r.read in
    let none : Took s 0 [] (opened_machine s) = refl in
    let (until, fits, took) = took-more s 0 [] r.arrivals (opened_machine s) r.behind (omega arith) none rises r.taken in
    (lives s until (arrived_packets [] r.arrivals) r.behind took).1 r.finished fits r.finishes number p is

-- ---- the bytes and the settings determine the report

takes-one : (arrivals : List Arrival) (before after other : Machine) → TakesArrivals arrivals before after
    → TakesArrivals arrivals before other
    → after ≡ other
takes-one [] before after other one two = one ∙ sym two
takes-one (a ∷ arrivals) before after other one two =
    let same : two.0 ≡ one.0 = arrives-as-one a.moment a.device before two.0 one.0 two.1 one.1 in
    takes-one arrivals one.0 after other one.2 (rw same at two.2)

same-list : (xs ys : List ProcessorView) → length xs ≡ length ys
    → ((n : ℕ) (p : ProcessorView) → slice_get xs n ≡ Some p → slice_get ys n ≡ Some p) → xs ≡ ys
same-list [] [] size each = refl
same-list [] (y ∷ ys) size each = absurd (omega (arith, size))
same-list (x ∷ xs) [] size each = absurd (omega (arith, size))
same-list (x ∷ xs) (y ∷ ys) size each =
    let head : x ≡ y = sym (same-some y x (each 0 x refl)) in
    let tail : xs ≡ ys = same-list xs ys (omega (arith, size)) (λ n p is. each (suc n) p is) in rw (head, tail) refl

finishes-one : (before after other : Machine) → Finishes before after → Finishes before other → after ≡ other
finishes-one before after other one two = same-list after other (one.count ∙ sym two.count) (λ number p is. by number p is)
  where
    by : (number : ℕ) (p : ProcessorView) → slice_get after number ≡ Some p → slice_get other number ≡ Some p
    by number p is =
        let some = slice_get-some before number (omega (arith, one.count, slice_get_within after number p is)) in
        let first = one.each number some.0 some.1 in
        let second = two.each number some.0 some.1 in
        let ready : first.2.0 ≡ second.2.0 = runs-as-one (2 ^ 64 - 1) some.0 first.2.0 second.2.0 first.2.1 second.2.1 in
        let last : first.0 ≡ second.0 = rw (first.2.2, second.2.2, ready) refl in
        rw (same-some p first.0 (sym is ∙ first.1), last) second.1

pub has-one-report : HasOneReport
has-one-report s bytes text other r q =
    let same : r.arrivals ≡ q.arrivals = same-ok r.arrivals q.arrivals (arrivals_of s (records_of bytes)) r.read q.read in
    let behind : r.behind ≡ q.behind =
    takes-one q.arrivals (opened_machine s) r.behind q.behind (rw same at r.taken) q.taken in
    let last : r.finished ≡ q.finished = finishes-one q.behind r.finished q.finished (rw behind at r.finishes) q.finishes in
    r.told ∙ (ap (machine_text s) last ∙ sym q.told)

-- ---- the events on a processor end

step-left : (s : MachineSettings) (until : ℕ) (p : ProcessorView) → Goes s p → is_due until p ≡ true → left load (step p) < left load p
step-left s until p h1 h2 = grind (arith, common_steps, step-asked)

-- after so many steps, the processor has this much left
run-ends : (s : MachineSettings) (until fuel count : ℕ) (p : ProcessorView) → Goes s (processor_after count p)
    → ((n : ℕ) → n < count → is_due until (processor_after n p) ≡ true) → left load (processor_after count p) < fuel
    → (q : ProcessorView) × Advances until p q
unfolding processor_after step
run-ends s until zero count p goes each few = absurd (omega (arith, few))
run-ends s until (suc fuel) count p goes each few =
    by (is_due until q) refl (λ due.
    run-ends s until fuel (suc count) p (goes-happens s (upcoming q) q goes) (each-more until p count each due)
    (omega (arith, few, step-left s until q goes due)))
  where
    q : ProcessorView
    q = processor_after count p

    by : (b : Bool) → is_due until q ≡ b → (is_due until q ≡ true → (r : ProcessorView) × Advances until p r)
        → (r : ProcessorView) × Advances until p r
    by false none later = (q, record { count = count; each = each; last = refl; none = none })
    by true due later = later due

pub every-run-ends : EveryRunEnds
unfolding processor_after
every-run-ends s until events =
    let p = behind s events in
    run-ends s until (suc (left load p)) zero p (goes-on s events) (λ n below. absurd (omega (arith, below))) (omega arith)
